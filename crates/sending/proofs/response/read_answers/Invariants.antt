-- `sending::response::read_answers` meets its contract. Assumes nothing.
use Prim.Native.Nat.{◌-◌}
use Rattle.sending.proofs.ResponseLaws.{Sofar}
use Rattle.sending.proofs.response.read_answers.Given as goal

abbrev pub invariant-loop-at : goal.invariant-loop-at
invariant-loop-at l = Sofar l.s l.bindings l.n l.at

abbrev pub decreases-loop-at : goal.decreases-loop-at
decreases-loop-at l = 16 - l.n
