-- `batch::pairs::first_pair` meets its contract. The invariant: the answer is that of the messages left. Assumes nothing.
use Rattle.std.specs.Prelude.{◌≡◌}
use Rattle.batch.specs.Check.{first_pair}
use Rattle.batch.specs.Found.{SetsFrom, named_from}
use Rattle.batch.proofs.pairs.first_pair.Given as goal

abbrev pub invariant-loop-first : goal.invariant-loop-first
invariant-loop-first l = SetsFrom l.batch l.at l.first × (first_pair 1 (named_from l.model l.batch 0 1) ≡ first_pair l.first (named_from l.model l.batch l.at l.first))
