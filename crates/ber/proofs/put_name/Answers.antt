use native.Mathlib.Omega.{arith}
use mathlib.Core.Path.{refl, ap, ◌∙◌}
use Prim.Native.Nat.{ℕ, ◌+◌, ◌*◌}
use lib.ListN.{get_or}
use Rattle.ber.proofs.NameLaws.{put-none, put-more, put-room, put_next, put-done, put_as, limit-small}
use Rattle.ber.proofs.put_name.Goals.{then-x-lt128, else-x-lt128}
use Rattle.ber.proofs.put_name.Goals as goal

pub loop-x-init : goal.loop-x-init
loop-x-init c = put-none _ _ c.requires.0 c.requires.2

pub overflow_mul-acc : goal.overflow_mul-acc
overflow_mul-acc c = omega (arith, c.loop-x.invariant.passed.small, limit-small c.loop-x.first)

pub overflow_add-acc : goal.overflow_add-acc
overflow_add-acc c = omega (arith, c.loop-x.invariant.passed.small, limit-small c.loop-x.first)

pub put_number-w-requires : goal.put_number-w-requires
put_number-w-requires c = rw c.from.ensures (put-room c.loop-x.invariant (get_or c.args.contents.now c.loop-x.x-index 0) c.loop-x-test.true refl (omega (arith, c.type_inv.contents c.loop-x.x-index)) c.requires.1 (omega arith))

pub loop-x-preserved : goal.loop-x-preserved
loop-x-preserved c =
    let p = c.loop-x.invariant in
    let x : ℕ = get_or c.args.contents.now c.loop-x.x-index 0 in
    let low = ap (λ (k : ℕ). c.loop-x.acc * 128 + k) c.from.ensures in
    elim c.if-x-lt128.branch [
      | then-x-lt128 v ↦
          put_as (put_next p x c.loop-x-test.true refl (omega (arith, c.type_inv.contents c.loop-x.x-index)) c.requires.1 (omega arith) (rw c.from.ensures at v.put_number-w.ensures.0) (rw c.from.ensures at v.put_number-w.ensures.1)) v.room-is v.first-is v.acc-is v.w-is
      | else-x-lt128 v ↦ put_as (put-more p x c.loop-x-test.true refl (omega (arith, c.type_inv.contents c.loop-x.x-index)) c.requires.1 (omega arith)) v.room-is v.first-is (v.acc-is ∙ low) v.w-is
    ]

pub shape_of-room : goal.shape_of-room
shape_of-room c = c.loop-x.invariant.long

pub returns : goal.returns
returns c = put-done c.loop-x.invariant c.loop-x-test.false
