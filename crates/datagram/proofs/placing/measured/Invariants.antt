-- `datagram::placing::measured` meets its contract. The invariant: what is counted and what is left have the size of all bindings together. Assumes nothing.
use Prim.Native.Nat.{◌+◌, ◌*◌, ◌≤◌}
use mathlib.Core.Path.{◌≡◌}
use mathlib.Core.List.{map}
use Rattle.message.specs.Answer.{bindings_size}
use Rattle.datagram.specs.Reading.{bound_at}
use Rattle.datagram.proofs.PlaceLaws.{left}
use Rattle.datagram.proofs.placing.measured.Given as goal

abbrev pub invariant-loop-b : goal.invariant-loop-b
invariant-loop-b l = (l.total ≤ 16 + 2000 * l.b-index) × (l.total + bindings_size (left l.s l.bindings l.b-index) ≡ 16 + bindings_size (map (bound_at l.s) l.bindings))
