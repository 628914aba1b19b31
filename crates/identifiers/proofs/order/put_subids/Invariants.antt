-- `identifiers::order::put_subids` meets its contract. The invariant: the octets of the first i sub-ids are patched in. Assumes nothing.
use mathlib.Core.Path.{◌≡◌}
use lib.ListN.{take}
use Rattle.octets.specs.Parts.{patch}
use Rattle.names.specs.SubIds.{name_octets}
use Rattle.identifiers.proofs.order.put_subids.Given as goal

abbrev pub invariant-loop-i : goal.invariant-loop-i
invariant-loop-i l = (l.s ≡ patch l.initial.s l.at (name_octets (take l.i l.ids)))
