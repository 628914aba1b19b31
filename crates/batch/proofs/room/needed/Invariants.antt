-- `batch::room::needed` meets its contract. The invariant: what is counted, and what is left, are the whole. Assumes nothing.
use Rattle.std.specs.Prelude.{ℕ, ◌≡◌, ◌+◌, ◌*◌, ◌-◌, ◌≤◌, length}
use Rattle.block.specs.Image.{content_of}
use Rattle.block.specs.Tables.{rows_of}
use Rattle.answer.specs.Tables.{first_column}
use Rattle.batch.specs.Found.{absent_each, SetsFrom, named_from}
use Rattle.batch.proofs.room.needed.Given as goal

abbrev pub invariant-loop-at : goal.invariant-loop-at
invariant-loop-at l =
    (i : ℕ) × SetsFrom l.batch l.at i × (l.n ≤ 240 + 16 * i)
    × (l.n + absent_each (rows_of l.t (content_of l.block)) (first_column l.t) (named_from l.model l.batch l.at i)
    ≡ length (rows_of l.t (content_of l.block)) + absent_each (rows_of l.t (content_of l.block)) (first_column l.t) (named_from l.model l.batch 0 1))

abbrev pub decreases-loop-at : goal.decreases-loop-at
decreases-loop-at l = length l.batch - l.at
