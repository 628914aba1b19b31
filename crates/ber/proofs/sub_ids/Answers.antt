use native.Mathlib.Omega.{arith}
use mathlib.Core.Path.{refl, ap, ◌∙◌}
use Prim.Native.Nat.{ℕ, ◌+◌, ◌*◌}
use lib.ListN.{get_or}
use Rattle.ber.proofs.NameLaws.{counted_none, counted-more, counted_next, counted-over, counted-done, passed_over, limit-small, counted-as}
use Rattle.ber.proofs.sub_ids.Goals.{then-x-lt128, else-x-lt128}
use Rattle.ber.proofs.sub_ids.Goals as goal

pub loop-x-init : goal.loop-x-init
loop-x-init c = counted_none _ c.requires.1

pub overflow_mul-acc : goal.overflow_mul-acc
overflow_mul-acc c = omega (arith, c.loop-x.invariant.passed.small, limit-small c.loop-x.first)

pub overflow_add-acc : goal.overflow_add-acc
overflow_add-acc c = omega (arith, c.loop-x.invariant.passed.small, limit-small c.loop-x.first)

pub returns-then-limit_of-acc : goal.returns-then-limit_of-acc
returns-then-limit_of-acc c = counted-over _ (passed_over c.loop-x.invariant.passed (get_or c.args.contents.now c.loop-x.x-index 0) c.loop-x-test.true refl (omega (arith, c.type_inv.contents c.loop-x.x-index)) (omega (arith, c.limit_of.ensures)))

pub loop-x-preserved : goal.loop-x-preserved
loop-x-preserved c =
    let w = c.loop-x.invariant in
    let x : ℕ = get_or c.args.contents.now c.loop-x.x-index 0 in
    let low = ap (λ (k : ℕ). c.loop-x.acc * 128 + k) c.from.ensures in
    elim c.if-x-lt128.branch [
      | then-x-lt128 v ↦
          counted-as (counted_next w x c.loop-x-test.true refl (omega (arith, c.type_inv.contents c.loop-x.x-index)) (omega (arith, c.limit_of.ensures)) _ v.from-then-x-lt128.ensures (omega arith)) v.first-is v.acc-is v.count-is
      | else-x-lt128 v ↦ counted-as (counted-more w x c.loop-x-test.true refl (omega (arith, c.type_inv.contents c.loop-x.x-index)) (omega (arith, c.limit_of.ensures)) (omega arith)) v.first-is (v.acc-is ∙ low) v.count-is
    ]

pub returns : goal.returns
returns c = counted-done c.loop-x.invariant c.loop-x-test.false
