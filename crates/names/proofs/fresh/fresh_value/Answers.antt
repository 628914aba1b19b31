-- `names::fresh::fresh_value` meets its contract: each arm gives the values of its place of `specs/Fresh.antt`. Assumes nothing.
use Prim.Native.Nat.{◌%◌}
use native.Mathlib.Omega.{arith}
use Rattle.names.proofs.FreshLaws.{single, regenerated, none-fresh}
use Rattle.names.proofs.fresh.fresh_value.Goals as goal

pub returns-in-5 : goal.returns-in-5
returns-in-5 c = rw c.in-5.is (single 32768 c.args.j)

pub returns-in-6 : goal.returns-in-6
returns-in-6 c = rw c.in-6.is (single 2000 c.args.j)

pub returns-in-7 : goal.returns-in-7
returns-in-7 c = rw c.in-7.is (single 200 c.args.j)

pub returns-in-8 : goal.returns-in-8
returns-in-8 c = rw c.in-8.is (single 1500 c.args.j)

pub returns-in-10 : goal.returns-in-10
returns-in-10 c = rw c.in-10.is (single 128 c.args.j)

pub returns-in-11 : goal.returns-in-11
returns-in-11 c = rw c.in-11.is (single 1 c.args.j)

pub returns-in-12 : goal.returns-in-12
returns-in-12 c = rw c.in-12.is (single 100 c.args.j)

pub returns-in-13 : goal.returns-in-13
returns-in-13 c = rw c.in-13.is (single 1470 c.args.j)

pub returns-in-18 : goal.returns-in-18
returns-in-18 c = rw c.in-18.is (single 300 c.args.j)

pub returns-in-23 : goal.returns-in-23
returns-in-23 c = rw c.in-23.is (single 0 c.args.j)

pub returns-in-25 : goal.returns-in-25
returns-in-25 c = rw c.in-25.is (regenerated (c.args.j % 8) (omega arith))

pub returns-in-26 : goal.returns-in-26
returns-in-26 c = rw c.in-26.is c.fresh_class.ensures

pub returns-in-37 : goal.returns-in-37
returns-in-37 c = rw c.in-37.is (single 1 c.args.j)

pub returns-in-38 : goal.returns-in-38
returns-in-38 c = rw c.in-38.is (single 1 c.args.j)

pub returns-in-39 : goal.returns-in-39
returns-in-39 c = rw c.in-39.is (single 2 c.args.j)

pub returns-in_default : goal.returns-in_default
returns-in_default c = rw (none-fresh _ c.args.place c.in_default.in_default-own.rest)
