-- `datagram::placing::put_bindings` meets its contract. The invariant: what is left, put where the loop stands, makes the room that all make. Assumes nothing.
use Prim.Native.Nat.{◌+◌}
use mathlib.Core.Path.{◌≡◌}
use mathlib.Core.List.{map}
use lib.ListN.{length}
use Rattle.octets.specs.Parts.{patch}
use Rattle.message.specs.Answer.{bindings_octets, bindings_size}
use Rattle.datagram.specs.Reading.{bound_at}
use Rattle.datagram.proofs.PlaceLaws.{left}
use Rattle.datagram.proofs.placing.put_bindings.Given as goal

abbrev pub invariant-loop-b : goal.invariant-loop-b
invariant-loop-b l =
    (length l.room ≡ length l.initial.room) × (l.to + bindings_size (left l.s l.bindings l.b-index) ≡ 16 + bindings_size (map (bound_at l.s) l.bindings))
    × (patch l.room l.to (bindings_octets (left l.s l.bindings l.b-index)) ≡ patch l.initial.room 16 (bindings_octets (map (bound_at l.s) l.bindings)))
