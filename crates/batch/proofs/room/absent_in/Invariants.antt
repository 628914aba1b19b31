-- `batch::room::absent_in` meets its contract. The invariant: what is counted, and what is left, are the whole. Assumes nothing.
use Rattle.std.specs.Prelude.{◌≡◌, ◌+◌, ◌≤◌, map, drop}
use Rattle.block.specs.Image.{content_of}
use Rattle.block.specs.Tables.{rows_of}
use Rattle.answer.specs.Tables.{first_column}
use Rattle.answer.specs.Terms.{absent}
use Rattle.batch.specs.Names.{keys_at}
use Rattle.batch.specs.Found.{meant}
use Rattle.batch.proofs.room.absent_in.Given as goal

abbrev pub invariant-loop-i : goal.invariant-loop-i
invariant-loop-i l =
    (l.n ≤ l.i)
    × (l.n + absent (rows_of l.t (content_of l.block)) (keys_at (first_column l.t) (map meant (drop l.i l.of)))
    ≡ absent (rows_of l.t (content_of l.block)) (keys_at (first_column l.t) (map meant l.of)))
