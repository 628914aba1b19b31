use mathlib.Core.Path.{◌≡◌, refl, ap, ◌∙◌}
use native.Mathlib.Omega.{arith}
use Prim.Native.Nat.{ℕ, ◌+◌, ◌-◌}
use lib.ListN.{take, drop}
use Rattle.names.specs.SubIds.{subids}
use Rattle.message.proofs.BindingLaws.{stands}
use Rattle.answer.specs.Judge.{group_of}
use Rattle.batch.proofs.GroupLaws.{sofar-none, sofar-all, sofar-full, sofar-refused, sofar-more}
use Rattle.batch.proofs.groups.groups_in.Goals as goal

pub loop-count-init : goal.loop-count-init
loop-count-init c = sofar-none _ _ _ refl c.requires.1

pub returns-then-m-at : goal.returns-then-m-at
returns-then-m-at c =
    let w = sofar-all c.loop-count.invariant c.if-m-at.true in
    (w.0, (w.1, w.2))

pub returns-in-Err : goal.returns-in-Err
returns-in-Err c = absurd (sofar-refused c.loop-count.invariant c.if-m-at.false c.in-Err.ensures refl)

pub overflow_add-end : goal.overflow_add-end
overflow_add-end c = omega (arith, (stands c.in-Ok.ensures refl).binding.named)

pub slice_bounds-group_named-end : goal.slice_bounds-group_named-end
slice_bounds-group_named-end c = omega (arith, (stands c.in-Ok.ensures refl).binding.named)

pub loop-count-preserved : goal.loop-count-preserved
loop-count-preserved c =
    let a = c.args in
    let b = c.in-Ok.bound.binding in
    let e : b.name + b.size - b.name ≡ b.size = omega arith in
    sofar-more c.loop-count.invariant c.if-m-at.false c.in-Ok.ensures refl c.group_named.result
    (c.group_named.ensures ∙ ap (λ (k : ℕ). group_of a.model (subids (take k (drop b.name a.m.now)))) e)

pub returns : goal.returns
returns c =
    let w = sofar-full c.loop-count.invariant (omega arith) in
    (w.0, (omega arith, w.1))
