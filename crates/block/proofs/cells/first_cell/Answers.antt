-- `block::cells::first_cell` meets its contract: each arm has the number of cells before its object. Assumes nothing.
use mathlib.Core.Path.{◌≡◌, refl}
use native.Mathlib.Omega.{arith}
use Rattle.names.specs.Table.{objects}
use Rattle.names.specs.Places.{ingress_filtering}
use Rattle.block.specs.Cells.{cells_in}
use Rattle.block.proofs.cells.first_cell.Goals as goal

pub returns-in-0 : goal.returns-in-0
unfolding objects cells_in
returns-in-0 c = rw c.in-0.is (refl, omega arith)

pub returns-in-1 : goal.returns-in-1
unfolding objects cells_in
returns-in-1 c = rw c.in-1.is (refl, omega arith)

pub returns-in-2 : goal.returns-in-2
unfolding objects cells_in
returns-in-2 c = rw c.in-2.is (refl, omega arith)

pub returns-in-3 : goal.returns-in-3
unfolding objects cells_in
returns-in-3 c = rw c.in-3.is (refl, omega arith)

pub returns-in-4 : goal.returns-in-4
unfolding objects cells_in
returns-in-4 c = rw c.in-4.is (refl, omega arith)

pub returns-in-5 : goal.returns-in-5
unfolding objects cells_in
returns-in-5 c = rw c.in-5.is (refl, omega arith)

pub returns-in-6 : goal.returns-in-6
unfolding objects cells_in
returns-in-6 c = rw c.in-6.is (refl, omega arith)

pub returns-in-7 : goal.returns-in-7
unfolding objects cells_in
returns-in-7 c = rw c.in-7.is (refl, omega arith)

pub returns-in-8 : goal.returns-in-8
unfolding objects cells_in
returns-in-8 c = rw c.in-8.is (refl, omega arith)

pub returns-in-9 : goal.returns-in-9
unfolding objects cells_in
returns-in-9 c = rw c.in-9.is (refl, omega arith)

pub returns-in-10 : goal.returns-in-10
unfolding objects cells_in
returns-in-10 c = rw c.in-10.is (refl, omega arith)

pub returns-in-11 : goal.returns-in-11
unfolding objects cells_in
returns-in-11 c = rw c.in-11.is (refl, omega arith)

pub returns-in-12 : goal.returns-in-12
unfolding objects cells_in
returns-in-12 c = rw c.in-12.is (refl, omega arith)

pub returns-in-13 : goal.returns-in-13
unfolding objects cells_in
returns-in-13 c = rw c.in-13.is (refl, omega arith)

pub returns-in-14 : goal.returns-in-14
unfolding objects cells_in
returns-in-14 c = rw c.in-14.is (refl, omega arith)

pub returns-in-15 : goal.returns-in-15
unfolding objects cells_in
returns-in-15 c = rw c.in-15.is (refl, omega arith)

pub returns-in-16 : goal.returns-in-16
unfolding objects cells_in
returns-in-16 c = rw c.in-16.is (refl, omega arith)

pub returns-in-17 : goal.returns-in-17
unfolding objects cells_in
returns-in-17 c = rw c.in-17.is (refl, omega arith)

pub returns-in-18 : goal.returns-in-18
unfolding objects cells_in
returns-in-18 c = rw c.in-18.is (refl, omega arith)

pub returns-in-19 : goal.returns-in-19
unfolding objects cells_in
returns-in-19 c = rw c.in-19.is (refl, omega arith)

pub returns-in-20 : goal.returns-in-20
unfolding objects cells_in
returns-in-20 c = rw c.in-20.is (refl, omega arith)

pub returns-in-21 : goal.returns-in-21
unfolding objects cells_in
returns-in-21 c = rw c.in-21.is (refl, omega arith)

pub returns-in-22 : goal.returns-in-22
unfolding objects cells_in
returns-in-22 c = rw c.in-22.is (refl, omega arith)

pub returns-in-23 : goal.returns-in-23
unfolding objects cells_in
returns-in-23 c = rw c.in-23.is (refl, omega arith)

pub returns-in-24 : goal.returns-in-24
unfolding objects cells_in
returns-in-24 c = rw c.in-24.is (refl, omega arith)

pub returns-in-25 : goal.returns-in-25
unfolding objects cells_in
returns-in-25 c = rw c.in-25.is (refl, omega arith)

pub returns-in-26 : goal.returns-in-26
unfolding objects cells_in
returns-in-26 c = rw c.in-26.is (refl, omega arith)

pub returns-in-27 : goal.returns-in-27
unfolding objects cells_in
returns-in-27 c = rw c.in-27.is (refl, omega arith)

pub returns-in-28 : goal.returns-in-28
unfolding objects cells_in
returns-in-28 c = rw c.in-28.is (refl, omega arith)

pub returns-in-29 : goal.returns-in-29
unfolding objects cells_in
returns-in-29 c = rw c.in-29.is (refl, omega arith)

pub returns-in-30 : goal.returns-in-30
unfolding objects cells_in
returns-in-30 c = rw c.in-30.is (refl, omega arith)

pub returns-in-31 : goal.returns-in-31
unfolding objects cells_in
returns-in-31 c = rw c.in-31.is (refl, omega arith)

pub returns-in-32 : goal.returns-in-32
unfolding objects cells_in
returns-in-32 c = rw c.in-32.is (refl, omega arith)

pub returns-in-33 : goal.returns-in-33
unfolding objects cells_in
returns-in-33 c = rw c.in-33.is (refl, omega arith)

pub returns-in-34 : goal.returns-in-34
unfolding objects cells_in
returns-in-34 c = rw c.in-34.is (refl, omega arith)

pub returns-in-35 : goal.returns-in-35
unfolding objects cells_in
returns-in-35 c = rw c.in-35.is (refl, omega arith)

pub returns-in-36 : goal.returns-in-36
unfolding objects cells_in
returns-in-36 c = rw c.in-36.is (refl, omega arith)

pub returns-in-37 : goal.returns-in-37
unfolding objects cells_in
returns-in-37 c = rw c.in-37.is (refl, omega arith)

pub returns-in-38 : goal.returns-in-38
unfolding objects cells_in
returns-in-38 c = rw c.in-38.is (refl, omega arith)

-- past the arms of the other places the last place is left
last : (c : goal.In_default) → c.args.i ≡ ingress_filtering
last c = omega arith

pub returns-in_default : goal.returns-in_default
unfolding objects cells_in
returns-in_default c = rw (last c) (refl, omega arith)
