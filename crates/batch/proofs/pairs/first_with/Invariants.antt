-- `batch::pairs::first_with` meets its contract. The invariant: the answer is that of the messages left. Assumes nothing.
use Rattle.std.specs.Prelude.{◌≡◌, map}
use Rattle.batch.specs.Check.{first_with}
use Rattle.batch.specs.Found.{meant, SetsFrom, named_from}
use Rattle.batch.proofs.pairs.first_with.Given as goal

abbrev pub invariant-loop-j : goal.invariant-loop-j
invariant-loop-j l =
    SetsFrom l.batch l.at l.j
    × (first_with (map meant l.of) l.number (named_from l.model l.batch l.from l.number) ≡ first_with (map meant l.of) l.j (named_from l.model l.batch l.at l.j))
