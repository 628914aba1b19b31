-- `identifiers::order::stands` meets its contract. The invariant: what is left of the name stands to what is left of the prefix as the whole does. Assumes nothing.
use mathlib.Core.Path.{◌≡◌}
use Prim.Native.Nat.{◌≤◌, ◌*◌}
use lib.ListN.{length, drop}
use Rattle.names.specs.Order.{side_of}
use Rattle.names.specs.SubIds.{subids}
use Rattle.identifiers.proofs.order.stands.Given as goal

abbrev pub invariant-loop-i : goal.invariant-loop-i
invariant-loop-i l =
    (4 * l.i ≤ length l.name) × (side_of (subids l.name) l.prefix ≡ side_of (subids (drop (4 * l.i) l.name)) (drop l.i l.prefix))
