-- `identifiers::order::relate` meets its contract. The invariant: what is left of the names stands as the names do. Assumes nothing.
use mathlib.Core.Path.{◌≡◌}
use Prim.Native.Nat.{◌*◌}
use lib.ListN.{drop}
use Rattle.names.specs.SubIds.{subids}
use Rattle.names.specs.Order.{relation}
use Rattle.identifiers.proofs.order.relate.Given as goal

abbrev pub invariant-loop-i : goal.invariant-loop-i
invariant-loop-i l = relation (subids l.a) (subids l.b) ≡ relation (subids (drop (4 * l.i) l.a)) (subids (drop (4 * l.i) l.b))
