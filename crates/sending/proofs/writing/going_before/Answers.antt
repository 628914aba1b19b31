use native.Mathlib.Omega.{arith}
use Rattle.sending.proofs.WriteLaws.{before-first, going-room, going-again, going_done}
use Rattle.sending.proofs.writing.going_before.Goals as goal

pub loop-m-init : goal.loop-m-init
loop-m-init c = (4, before-first _ _ _ (omega arith) (omega arith))

pub overflow_sub-q : goal.overflow_sub-q
overflow_sub-q c = omega (arith, going-room c.loop-m.invariant (omega arith))

pub bounds-out-q : goal.bounds-out-q
bounds-out-q c = omega (arith, going-room c.loop-m.invariant (omega arith), c.loop-m.invariant.1.within, c.loop-m.invariant.1.long)

pub loop-m-preserved : goal.loop-m-preserved
loop-m-preserved c = going-again c.loop-m.invariant (omega arith) (omega arith)

pub shape_of-out : goal.shape_of-out
shape_of-out c = c.loop-m.invariant.1.long

pub returns : goal.returns
returns c = going_done c.loop-m.invariant (omega arith)
