use native.Mathlib.Omega.{arith}
use mathlib.Core.Path.{refl, ap}
use lib.ListN.{get_or}
use Rattle.message.specs.Request.{no_binding}
use Rattle.message.specs.Answer.{bindings_size}
use Rattle.datagram.proofs.PlaceLaws.{bound-none, size-turn, bound-most}
use Rattle.datagram.proofs.placing.measured.Goals as goal

pub loop-b-init : goal.loop-b-init
loop-b-init c = (omega arith, refl)

pub bound_size-total-requires : goal.bound_size-total-requires
bound_size-total-requires c = (c.requires.0, (c.requires.1.each c.loop-b.b-index c.loop-b-test.true))

pub overflow_add-total : goal.overflow_add-total
overflow_add-total c = omega (arith, c.requires.1.few, c.bound_size-total.ensures, (c.requires.1.each c.loop-b.b-index c.loop-b-test.true).filled, bound-most c.args.s.now (get_or c.args.bindings.now c.loop-b.b-index no_binding) (c.requires.1.each c.loop-b.b-index c.loop-b-test.true))

pub loop-b-preserved : goal.loop-b-preserved
loop-b-preserved c = (
  omega (arith, c.bound_size-total.ensures, (c.requires.1.each c.loop-b.b-index c.loop-b-test.true).filled, bound-most c.args.s.now (get_or c.args.bindings.now c.loop-b.b-index no_binding) (c.requires.1.each c.loop-b.b-index c.loop-b-test.true)),
  omega (arith, c.bound_size-total.ensures, size-turn c.args.s.now c.args.bindings.now c.loop-b.b-index c.loop-b-test.true),
)

pub returns : goal.returns
unfolding bindings_size
returns c = omega (arith, ap bindings_size (bound-none c.args.s.now c.args.bindings.now c.loop-b.b-index c.loop-b-test.false))
