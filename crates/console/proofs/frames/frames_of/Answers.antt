use mathlib.Core.Path.{refl}
use native.Mathlib.Omega.{arith}
use Rattle.console.proofs.BatchLaws.{sofar-most, sofar-full, sofar-refused, sofar-more, sofar-all}
use Rattle.console.proofs.frames.frames_of.Goals as goal

pub returns-then-at-batch : goal.returns-then-at-batch
returns-then-at-batch c = (sofar-all c.loop-n.invariant (omega arith), omega arith, c.loop-n.invariant.placed)

pub returns-in-Err : goal.returns-in-Err
returns-in-Err c =
    (sofar-refused c.loop-n.invariant (omega (arith, c.loop-n.invariant.within, c.if-at-batch.false)) (omega arith) _ c.in-Err.ensures, omega arith, c.loop-n.invariant.placed)

pub loop-n-preserved : goal.loop-n-preserved
loop-n-preserved c =
    sofar-more c.loop-n.invariant (omega (arith, c.loop-n.invariant.within, c.if-at-batch.false)) (omega arith) _ c.in-Ok.ensures

pub returns-then-at-batch-2 : goal.returns-then-at-batch-2
returns-then-at-batch-2 c =
    let w = sofar-most (omega arith) c.loop-n.invariant in
    (sofar-full w c.if-at-batch-2.true refl, omega arith, w.placed)

pub returns-else-at-batch-2 : goal.returns-else-at-batch-2
returns-else-at-batch-2 c =
    let w = sofar-most (omega arith) c.loop-n.invariant in
    (sofar-all w c.if-at-batch-2.false, omega arith, w.placed)
