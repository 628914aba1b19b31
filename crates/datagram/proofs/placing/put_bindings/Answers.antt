use native.Mathlib.Omega.{arith}
use Rattle.std.proofs.Common.{rules}
use mathlib.Core.Path.{refl, sym, ap, ◌∙◌}
use mathlib.Core.List.{List}
use Rattle.octets.specs.Parts.{patch}
use Rattle.octets.proofs.PartLaws.{patch-none}
use Rattle.message.specs.Answer.{Bound, bindings_octets}
use Rattle.datagram.proofs.PlaceLaws.{bound-none, size-turn, put-turn}
use Rattle.datagram.proofs.placing.put_bindings.Goals as goal

pub loop-b-init : goal.loop-b-init
loop-b-init c = (refl, refl, refl)

pub put_bound-requires : goal.put_bound-requires
put_bound-requires c = (c.requires.0, (c.requires.1.each c.loop-b.b-index c.loop-b-test.true), omega (arith, c.requires.2, c.loop-b.invariant, size-turn c.args.s.now c.args.bindings.now c.loop-b.b-index c.loop-b-test.true))

pub bound_size-to-requires : goal.bound_size-to-requires
bound_size-to-requires c = (c.requires.0, (c.requires.1.each c.loop-b.b-index c.loop-b-test.true))

pub overflow_add-to : goal.overflow_add-to
overflow_add-to c = omega (arith, c.requires.2, c.loop-b.invariant, c.bound_size-to.ensures, size-turn c.args.s.now c.args.bindings.now c.loop-b.b-index c.loop-b-test.true)

pub loop-b-preserved : goal.loop-b-preserved
loop-b-preserved c = (
  search rules,
  omega (arith, c.loop-b.invariant, c.bound_size-to.ensures, size-turn c.args.s.now c.args.bindings.now c.loop-b.b-index c.loop-b-test.true),
  rw (c.bound_size-to.ensures, c.put_bound.ensures) (put-turn c.args.s.now c.args.bindings.now c.loop-b.b-index c.loop-b-test.true c.loop-b.room c.loop-b.to (omega (arith, c.requires.2, c.loop-b.invariant)) ∙ c.loop-b.invariant.2),
)

pub returns : goal.returns
unfolding bindings_octets
returns c =
    let o = c.loop-b in
    patch-none o.room o.to ∙ ap (λ (x : List Bound). patch o.room o.to (bindings_octets x)) (sym (bound-none c.args.s.now c.args.bindings.now o.b-index c.loop-b-test.false)) ∙ o.invariant.2
