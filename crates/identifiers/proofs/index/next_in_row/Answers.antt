-- `identifiers::index::next_in_row` meets its contract: the key is the least above, or, where that is greater, the first of the row. Assumes nothing.
use mathlib.Core.Path.{◌≡◌}
use Prim.Native.Nat.{max}
use native.Mathlib.Omega.{arith}
use borrow.Author.Tests.{lt-ltb, le-ltb}
use Rattle.names.specs.SubIds.{subids}
use Rattle.names.specs.Index.{bases, least}
use Rattle.names.proofs.IndexLaws.{first-row}
use Rattle.names.proofs.IndexTurns.{limit-size}
use Rattle.identifiers.proofs.index.next_in_row.Goals as goal

pub overflow_add-a : goal.overflow_add-a
overflow_add-a c = omega (arith, (limit-size c.args.shape).1)

pub returns-then-k-a : goal.returns-then-k-a
returns-then-k-a c =
    let a = c.args in
    let k : max (least (bases a.shape) (subids a.rest.now)) a.a ≡ c.max-k.result = omega arith in
    rw (first-row a.shape (subids a.rest.now) a.a a.n c.requires, k, lt-ltb _ _ c.if-k-a.true)

pub returns-else-k-a : goal.returns-else-k-a
returns-else-k-a c =
    let a = c.args in
    let k : max (least (bases a.shape) (subids a.rest.now)) a.a ≡ c.max-k.result = omega arith in
    rw (first-row a.shape (subids a.rest.now) a.a a.n c.requires, k, le-ltb _ _ c.if-k-a.false)
