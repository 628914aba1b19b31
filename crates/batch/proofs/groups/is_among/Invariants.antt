-- `batch::groups::is_among` meets its contract. The invariant: the answer is that of the bindings left. Assumes nothing.
use Rattle.std.specs.Prelude.{◌≡◌, map, drop}
use Rattle.batch.specs.Names.{among}
use Rattle.batch.specs.Found.{meant}
use Rattle.batch.proofs.groups.is_among.Given as goal

abbrev pub invariant-loop-g : goal.invariant-loop-g
invariant-loop-g l = among (meant l.t) (map meant l.of) ≡ among (meant l.t) (map meant (drop l.g-index l.of))
