-- `tally::steps::count_if` meets its contract. Assumes nothing.
use Prim.Native.Nat.{◌<◌}
use native.Mathlib.Omega.{arith}
use lib.Dec.{ltb}
use borrow.Author.Tests.{ltb-true}
use Rattle.tally.specs.Codes.{most_cases}
use Rattle.octets.proofs.BoolLaws.{right_of}
use Rattle.tally.proofs.steps.count_if.Goals as goal

pub overflow_add-result : goal.overflow_add-result
overflow_add-result c =
    let n = c.args.n in
    let less : n < most_cases = ltb-true n most_cases (right_of c.args.hit (ltb n most_cases) c.if-hit-n.true) in
    omega arith

pub returns-then-hit-n : goal.returns-then-hit-n
returns-then-hit-n c = rw c.if-hit-n.true

pub returns : goal.returns
returns c = rw c.if-hit-n.false
