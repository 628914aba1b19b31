-- `names::table::object` meets its contract: each arm writes the object type at its place of `specs/Table.antt`. Assumes nothing.
use mathlib.Core.Path.{◌≡◌}
use native.Mathlib.Omega.{arith}
use Rattle.names.specs.Table.{objects}
use Rattle.names.specs.Places.{ingress_filtering}
use Rattle.names.proofs.PlaceLaws.{last-place}
use Rattle.names.proofs.table.object.Goals as goal

pub returns-in-0 : goal.returns-in-0
unfolding objects
returns-in-0 c = rw (c.row.ensures, c.in-0.is)

pub returns-in-1 : goal.returns-in-1
unfolding objects
returns-in-1 c = rw (c.row-in-1.ensures, c.in-1.is)

pub returns-in-2 : goal.returns-in-2
unfolding objects
returns-in-2 c = rw (c.row-in-2.ensures, c.in-2.is)

pub returns-in-3 : goal.returns-in-3
unfolding objects
returns-in-3 c = rw (c.row-in-3.ensures, c.in-3.is)

pub returns-in-4 : goal.returns-in-4
unfolding objects
returns-in-4 c = rw (c.row-in-4.ensures, c.in-4.is)

pub returns-in-5 : goal.returns-in-5
unfolding objects
returns-in-5 c = rw (c.row-in-5.ensures, c.in-5.is)

pub returns-in-6 : goal.returns-in-6
unfolding objects
returns-in-6 c = rw (c.row-in-6.ensures, c.in-6.is)

pub returns-in-7 : goal.returns-in-7
unfolding objects
returns-in-7 c = rw (c.row-in-7.ensures, c.in-7.is)

pub returns-in-8 : goal.returns-in-8
unfolding objects
returns-in-8 c = rw (c.row-in-8.ensures, c.in-8.is)

pub returns-in-9 : goal.returns-in-9
unfolding objects
returns-in-9 c = rw (c.row-in-9.ensures, c.in-9.is)

pub returns-in-10 : goal.returns-in-10
unfolding objects
returns-in-10 c = rw (c.row-in-10.ensures, c.in-10.is)

pub returns-in-11 : goal.returns-in-11
unfolding objects
returns-in-11 c = rw (c.row-in-11.ensures, c.in-11.is)

pub returns-in-12 : goal.returns-in-12
unfolding objects
returns-in-12 c = rw (c.row-in-12.ensures, c.in-12.is)

pub returns-in-13 : goal.returns-in-13
unfolding objects
returns-in-13 c = rw (c.row-in-13.ensures, c.in-13.is)

pub returns-in-14 : goal.returns-in-14
unfolding objects
returns-in-14 c = rw (c.row-in-14.ensures, c.in-14.is)

pub returns-in-15 : goal.returns-in-15
unfolding objects
returns-in-15 c = rw (c.row-in-15.ensures, c.in-15.is)

pub returns-in-16 : goal.returns-in-16
unfolding objects
returns-in-16 c = rw (c.row-in-16.ensures, c.in-16.is)

pub returns-in-17 : goal.returns-in-17
unfolding objects
returns-in-17 c = rw (c.row-in-17.ensures, c.in-17.is)

pub returns-in-18 : goal.returns-in-18
unfolding objects
returns-in-18 c = rw (c.row-in-18.ensures, c.in-18.is)

pub returns-in-19 : goal.returns-in-19
unfolding objects
returns-in-19 c = rw (c.row-in-19.ensures, c.in-19.is)

pub returns-in-20 : goal.returns-in-20
unfolding objects
returns-in-20 c = rw (c.row-in-20.ensures, c.in-20.is)

pub returns-in-21 : goal.returns-in-21
unfolding objects
returns-in-21 c = rw (c.row-in-21.ensures, c.in-21.is)

pub returns-in-22 : goal.returns-in-22
unfolding objects
returns-in-22 c = rw (c.row-in-22.ensures, c.in-22.is)

pub returns-in-23 : goal.returns-in-23
unfolding objects
returns-in-23 c = rw (c.row-in-23.ensures, c.in-23.is)

pub returns-in-24 : goal.returns-in-24
unfolding objects
returns-in-24 c = rw (c.row-in-24.ensures, c.in-24.is)

pub returns-in-25 : goal.returns-in-25
unfolding objects
returns-in-25 c = rw (c.row-in-25.ensures, c.in-25.is)

pub returns-in-26 : goal.returns-in-26
unfolding objects
returns-in-26 c = rw (c.row-in-26.ensures, c.in-26.is)

pub returns-in-27 : goal.returns-in-27
unfolding objects
returns-in-27 c = rw (c.row-in-27.ensures, c.in-27.is)

pub returns-in-28 : goal.returns-in-28
unfolding objects
returns-in-28 c = rw (c.row-in-28.ensures, c.in-28.is)

pub returns-in-29 : goal.returns-in-29
unfolding objects
returns-in-29 c = rw (c.row-in-29.ensures, c.in-29.is)

pub returns-in-30 : goal.returns-in-30
unfolding objects
returns-in-30 c = rw (c.row-in-30.ensures, c.in-30.is)

pub returns-in-31 : goal.returns-in-31
unfolding objects
returns-in-31 c = rw (c.row-in-31.ensures, c.in-31.is)

pub returns-in-32 : goal.returns-in-32
unfolding objects
returns-in-32 c = rw (c.row-in-32.ensures, c.in-32.is)

pub returns-in-33 : goal.returns-in-33
unfolding objects
returns-in-33 c = rw (c.row-in-33.ensures, c.in-33.is)

pub returns-in-34 : goal.returns-in-34
unfolding objects
returns-in-34 c = rw (c.row-in-34.ensures, c.in-34.is)

pub returns-in-35 : goal.returns-in-35
unfolding objects
returns-in-35 c = rw (c.row-in-35.ensures, c.in-35.is)

pub returns-in-36 : goal.returns-in-36
unfolding objects
returns-in-36 c = rw (c.row-in-36.ensures, c.in-36.is)

pub returns-in-37 : goal.returns-in-37
unfolding objects
returns-in-37 c = rw (c.row-in-37.ensures, c.in-37.is)

pub returns-in-38 : goal.returns-in-38
unfolding objects
returns-in-38 c = rw (c.row-in-38.ensures, c.in-38.is)

-- past the arms of the other places the last place is left
pub returns-in_default : goal.returns-in_default
unfolding objects
returns-in_default c =
    let e : c.args.i ≡ ingress_filtering = last-place c.args.i (omega arith) c.in_default.in_default-own.rest in
    rw (c.row-in_default.ensures, e)
