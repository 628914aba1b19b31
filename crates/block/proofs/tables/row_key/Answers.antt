-- `block::tables::row_key` meets its contract: a key stands at the start of its row. Assumes nothing.
use mathlib.Core.Path.{◌≡◌}
use Prim.Native.Nat.{◌+◌, ◌*◌, ◌≤◌}
use native.Mathlib.Omega.{arith}
use lib.ListN.{length}
use Rattle.block.specs.Layout.{block_size}
use Rattle.block.specs.Tables.{standing}
use Rattle.block.proofs.StandingLaws.{stands, row-ends-in, key-is}
use Rattle.block.proofs.tables.row_key.Goals as goal
use Rattle.block.proofs.tables.row_key.Lts as lts
use Rattle.block.proofs.tables.row_key.Reads as reads
use Rattle.block.proofs.tables.row_key.Tie as tie

-- the row is in the block
inside : (c : lts.After-standing_of tie.the-claims reads.Pre reads.Post) →
    let a = c.args in
    let at = standing a.t in
    (at.rows + a.i * at.width + at.width ≤ length a.block.now) × (length a.block.now ≡ block_size) × (at.key ≤ at.width) × (at.key ≤ 8)
inside c =
    let d = c.before.before in
    let s = stands d.args.t in
    (row-ends-in d.args.block.now d.args.t d.args.i d.requires.0 d.requires.1, d.requires.0.long, s.2, s.3)

pub overflow_mul-i : goal.overflow_mul-i
overflow_mul-i c = rw c.standing_of-at.ensures (omega (arith, inside c.before.before))

pub overflow_add-at : goal.overflow_add-at
overflow_add-at c = rw c.standing_of-at.ensures (omega (arith, inside c.before.before.before))

pub be-requires : goal.be-requires
be-requires c = rw c.standing_of-at.ensures (omega (arith, inside c.before.before.before))

pub returns : goal.returns
returns c =
    let d = c.before.before.before.before.before.before in
    let a = d.args in
    rw (key-is a.block.now a.t a.i d.requires.1, ← c.standing_of-at.ensures) c.be.ensures.0
