-- `sending::put_bindings` meets its contract. Assumes nothing.
use Prim.Native.Nat.{◌+◌}
use mathlib.Core.Path.{◌≡◌}
use lib.ListN.{length}
use Rattle.octets.specs.Parts.{patch}
use Rattle.sending.specs.Writing.{bindings_ber}
use Rattle.sending.proofs.SendLaws.{left}
use Rattle.sending.proofs.put_bindings.Given as goal

abbrev pub invariant-loop-b : goal.invariant-loop-b
invariant-loop-b l = (length l.room ≡ length l.initial.room) × (l.to + length (bindings_ber (left l.s l.bindings l.b-index)) ≡ l.from + length (bindings_ber (left l.s l.bindings 0))) × (patch l.room l.to (bindings_ber (left l.s l.bindings l.b-index)) ≡ patch l.initial.room l.from (bindings_ber (left l.s l.bindings 0)))
