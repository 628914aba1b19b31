use native.Mathlib.Omega.{arith}
use Prim.Native.Nat.{◌+◌}
use mathlib.Core.Path.{◌≡◌, ap, ◌∙◌}
use lib.ListN.{length}
use Rattle.octets.specs.Numbers.{be_at}
use Rattle.ber.specs.Ber.{at_most}
use Rattle.ber.proofs.BerLaws.{be_at-turn, most-over, most-under}
use Rattle.ber.proofs.number_to.Goals as goal

pub loop-x-init : goal.loop-x-init
unfolding be_at
loop-x-init c = (omega arith, omega arith)

pub returns-then-most-acc : goal.returns-then-most-acc
returns-then-most-acc c = most-over c.args.octets.now (c.loop-x.x-index + 1) _ _ (omega arith) (omega (arith, be_at-turn c.args.octets.now c.loop-x.x-index))

pub loop-x-preserved : goal.loop-x-preserved
loop-x-preserved c = (omega arith, omega (arith, be_at-turn c.args.octets.now c.loop-x.x-index))

pub returns : goal.returns
returns c =
    let e : c.loop-x.acc ≡ be_at c.args.octets.now 0 (length c.args.octets.now) = c.loop-x.invariant.1 ∙ ap (be_at c.args.octets.now 0) {x = c.loop-x.x-index} {y = length c.args.octets.now} (omega arith) in
    most-under c.args.most c.loop-x.acc (omega arith) ∙ ap (at_most c.args.most) e
