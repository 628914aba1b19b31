-- `block::tables::end_of` meets its contract. Assumes nothing.
use mathlib.Core.Path.{◌≡◌, ◌∙◌}
use Prim.Native.Nat.{◌+◌, ◌*◌, ◌≤◌}
use native.Mathlib.Omega.{arith}
use Rattle.octets.specs.Numbers.{be_at}
use Rattle.block.specs.Layout.{block_size}
use Rattle.block.specs.Tables.{standing}
use Rattle.block.proofs.StandingLaws.{rows_inside}
use Rattle.block.proofs.ReadLaws.{many-in}
use Rattle.block.proofs.tables.end_of.Goals as goal
use Rattle.block.proofs.tables.end_of.Lts as lts
use Rattle.block.proofs.tables.end_of.Reads as reads
use Rattle.block.proofs.tables.end_of.Tie as tie

-- the rows are in the block, and as many as it says
inside : (c : lts.After-row_count tie.the-claims reads.Pre reads.Post) →
    let a = c.args in
    let at = standing a.t in
    (at.rows + c.row_count.result * at.width ≤ block_size) × (c.row_count.result ≡ be_at a.block.now at.count 4)
inside c =
    let d = c.before.before.before in
    let b = d.args.block.now in
    let n = c.row_count.ensures ∙ many-in b d.args.t in
    (rw n (omega (arith, rows_inside b d.args.t d.requires, d.requires.long)), n)

pub overflow_mul-result : goal.overflow_mul-result
overflow_mul-result c = rw c.standing_of-at.ensures (omega (arith, inside c.before.before))

pub overflow_add-result : goal.overflow_add-result
overflow_add-result c = rw c.standing_of-at.ensures (omega (arith, inside c.before.before.before))

pub returns : goal.returns
returns c = rw (c.standing_of-at.ensures, (inside c.before.before.before).1)
