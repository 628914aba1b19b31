-- `batch::groups::share` meets its contract. The invariant: the answer is that of the bindings left. Assumes nothing.
use Rattle.std.specs.Prelude.{◌≡◌, map, drop}
use Rattle.batch.specs.Names.{common}
use Rattle.batch.specs.Found.{meant}
use Rattle.batch.proofs.groups.share.Given as goal

abbrev pub invariant-loop-g : goal.invariant-loop-g
invariant-loop-g l = common (map meant l.a) (map meant l.b) ≡ common (map meant (drop l.g-index l.a)) (map meant l.b)
