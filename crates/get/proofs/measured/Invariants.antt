-- `get::measured` meets its contract. The loop's invariant: what is counted and what is left have the size of all bindings together.
-- Assumes nothing.
use mathlib.Core.Path.{◌≡◌}
use Prim.Native.Nat.{◌+◌, ◌*◌, ◌≤◌}
use Rattle.block.specs.Image.{content_of}
use Rattle.message.specs.Answer.{bindings_size}
use Rattle.get.proofs.ReplyTurns.{left}
use Rattle.get.proofs.measured.Given as goal

abbrev pub invariant-loop-b : goal.invariant-loop-b
invariant-loop-b l =
    (l.total ≤ 16 + 553 * l.b-index)
    × (l.total + bindings_size (left l.request (content_of l.block) l.kind l.bindings l.b-index) ≡ 16 + bindings_size (left l.request (content_of l.block) l.kind l.bindings 0))
