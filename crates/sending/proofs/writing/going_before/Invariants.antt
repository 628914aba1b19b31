-- `sending::writing::going_before` meets its contract. Assumes nothing.
use Rattle.sending.proofs.WriteLaws.{Going}
use Rattle.sending.proofs.writing.going_before.Given as goal

abbrev pub invariant-loop-m : goal.invariant-loop-m
invariant-loop-m l = Going l.initial.out l.out l.p l.n l.q l.m

abbrev pub decreases-loop-m : goal.decreases-loop-m
decreases-loop-m l = l.m
