-- `sending::bindings_size` meets its contract. Assumes nothing.
use Prim.Native.Nat.{◌+◌, ◌*◌, ◌≤◌}
use mathlib.Core.Path.{◌≡◌}
use lib.ListN.{length}
use Rattle.sending.specs.Writing.{bindings_ber}
use Rattle.sending.proofs.SendLaws.{left}
use Rattle.sending.proofs.bindings_size.Given as goal

abbrev pub invariant-loop-b : goal.invariant-loop-b
invariant-loop-b l = (l.total ≤ 908 * l.b-index) × (l.total + length (bindings_ber (left l.s l.bindings l.b-index)) ≡ length (bindings_ber (left l.s l.bindings 0)))
