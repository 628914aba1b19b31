use native.Mathlib.Omega.{arith}
use lib.ListN.{get_or}
use Rattle.message.specs.Request.{no_binding}
use Rattle.sending.proofs.SendLaws.{binding-most, bers-size, bers-none}
use Rattle.sending.proofs.bindings_size.Goals as goal

pub overflow_add-total : goal.overflow_add-total
overflow_add-total c =
    let i = c.loop-b.b-index in
    omega (arith, c.requires.few, c.bound_size-total.ensures, binding-most c.args.s.now (get_or c.args.bindings.now i no_binding) (c.requires.each i (omega arith)), c.loop-b.invariant.0)

pub loop-b-preserved : goal.loop-b-preserved
loop-b-preserved c =
    let i = c.loop-b.b-index in
    let bs = c.args.bindings.now in (
      omega (arith, c.bound_size-total.ensures, binding-most c.args.s.now (get_or bs i no_binding) (c.requires.each i (omega arith)), c.loop-b.invariant.0),
      omega (arith, c.bound_size-total.ensures, bers-size c.args.s.now bs i (omega arith), c.loop-b.invariant.1),
    )

pub returns : goal.returns
returns c = (
  omega (arith, bers-none c.args.s.now c.args.bindings.now c.loop-b.b-index (omega arith), c.loop-b.invariant.1),
  omega (arith, c.requires.few, c.loop-b.invariant.0),
)
