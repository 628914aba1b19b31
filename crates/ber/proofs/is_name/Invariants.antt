-- `ber::is_name` meets its contract. The invariant: the octets that are left end as all do. Assumes nothing.
use mathlib.Core.Path.{◌≡◌}
use mathlib.Core.Bool.{true}
use lib.ListN.{drop}
use Rattle.ber.specs.Ber.{ends_from}
use Rattle.ber.proofs.is_name.Given as goal

abbrev pub invariant-loop-x : goal.invariant-loop-x
invariant-loop-x l = ends_from l.fresh (drop l.x-index l.contents) ≡ ends_from true l.contents
