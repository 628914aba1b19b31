use mathlib.Core.Path.{◌≡◌, refl, ap, ◌∙◌}
use Prim.Native.Nat.{ℕ, ◌+◌, ◌*◌, ◌<◌}
use native.Mathlib.Omega.{arith}
use lib.ListN.{get_or}
use Rattle.octets.specs.Numbers.{be_at}
use Rattle.octets.proofs.NumberLaws.{room, room8, be_at-more}
use Rattle.octets.proofs.PartLaws.{lent_length, lent-at}
use Rattle.octets.proofs.numbers.be.Goals as goal

pub loop-x-init : goal.loop-x-init
unfolding be_at
loop-x-init c = (refl, omega arith)

pub overflow_mul-acc : goal.overflow_mul-acc
overflow_mul-acc c =
    let l = c.loop-x in
    let a = c.args in
    let k : l.x-index < a.w = omega (arith, c.loop-x-test.true, lent_length a.s.now a.at a.w c.requires.0) in
    omega (arith, room8 l.x-index (l.acc * 256 + 0) (omega arith) (room l.x-index l.acc 0 l.invariant.1 (omega arith)))

-- a turn is within the width, and the octet that it reads
within : (c : goal.After-from) → c.loop-x.x-index < c.args.w
within c = omega (arith, c.loop-x-test.true, lent_length c.args.s.now c.args.at c.args.w c.requires.0)

octet : (c : goal.After-from) → c.from.result ≡ get_or c.args.s.now (c.args.at + c.loop-x.x-index) 0
octet c = c.from.ensures ∙ lent-at c.args.s.now c.args.at c.args.w c.loop-x.x-index (within c)

small : (c : goal.After-from) → c.from.result < 256
small c = omega (arith, octet c, c.type_inv.s (c.args.at + c.loop-x.x-index))

pub overflow_add-acc : goal.overflow_add-acc
overflow_add-acc c =
    let l = c.loop-x in
    omega (arith, room8 l.x-index _ (omega (arith, within c)) (room l.x-index l.acc _ l.invariant.1 (small c)))

pub loop-x-preserved : goal.loop-x-preserved
loop-x-preserved c =
    let l = c.loop-x in
    let a = c.args in
    (rw (be_at-more, octet c) (ap (λ (n : ℕ). n * 256 + get_or a.s.now (a.at + l.x-index) 0) l.invariant.0), room l.x-index l.acc _ l.invariant.1 (small c))
