-- `get::put_replies` meets its contract. The loop's invariant: what is left, put where the loop stands, makes the room that all make.
-- Assumes nothing.
use mathlib.Core.Path.{◌≡◌}
use Prim.Native.Nat.{◌+◌}
use lib.ListN.{length}
use Rattle.octets.specs.Parts.{patch}
use Rattle.block.specs.Image.{content_of}
use Rattle.message.specs.Answer.{bindings_octets, bindings_size}
use Rattle.get.proofs.ReplyTurns.{left}
use Rattle.get.proofs.put_replies.Given as goal

abbrev pub invariant-loop-b : goal.invariant-loop-b
invariant-loop-b l =
    (length l.room ≡ length l.initial.room)
    × (l.to + bindings_size (left l.request (content_of l.block) l.kind l.bindings l.b-index) ≡ 16 + bindings_size (left l.request (content_of l.block) l.kind l.bindings 0))
    × (patch l.room l.to (bindings_octets (left l.request (content_of l.block) l.kind l.bindings l.b-index))
    ≡ patch l.initial.room 16 (bindings_octets (left l.request (content_of l.block) l.kind l.bindings 0)))
