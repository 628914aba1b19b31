-- `batch::reads::first_refused` meets its contract. The invariant: what is said of the messages left is what is said of all. Assumes nothing.
use Rattle.std.specs.Prelude.{◌≡◌, ◌≤◌, length}
use Rattle.batch.specs.Found.{read_from}
use Rattle.batch.proofs.reads.first_refused.Given as goal

abbrev pub invariant-loop-i : goal.invariant-loop-i
invariant-loop-i l = (l.at ≤ length l.batch) × (read_from l.batch 0 1 ≡ read_from l.batch l.at l.i)
