-- `message::request::bindings_in` meets its contract. The loop's invariant: the bindings located, before those that are still to be located, are the whole.
-- Assumes nothing.
use Rattle.message.proofs.LoopLaws.{Sofar}
use Rattle.message.proofs.request.bindings_in.Given as goal

abbrev pub invariant-loop-slot : goal.invariant-loop-slot
invariant-loop-slot l = Sofar l.kind l.s l.slot-items l.slot-index l.at
