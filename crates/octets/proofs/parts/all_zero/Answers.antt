use mathlib.Core.Path.{refl, ap, ◌∙◌, sym}
use mathlib.Core.Bool.{Bool, ◌&&◌}
use Prim.Native.Nat.{ℕ, ◌+◌, ◌<◌}
use native.Mathlib.Omega.{arith}
use lib.Bits.{or_lt}
use lib.Dec.{eqb}
use lib.ListN.{get_or}
use Rattle.octets.specs.Parts.{zero_run}
use Rattle.octets.proofs.PartLaws.{zero_run-snoc, or-zero, lent_length, lent-at}
use Rattle.octets.proofs.parts.all_zero.Goals as goal

pub loop-x-init : goal.loop-x-init
unfolding zero_run
loop-x-init c = (omega arith, refl)

pub loop-x-preserved : goal.loop-x-preserved
loop-x-preserved c =
    let l = c.loop-x in
    let a = c.args in
    let k : l.x-index < a.n = omega (arith, c.loop-x-test.true, lent_length a.s.now a.at a.n c.requires) in
    let x : ℕ = get_or a.s.now (a.at + l.x-index) 0 in
    rw (lent-at a.s.now a.at a.n l.x-index k) (
      or_lt 8 l.bits x l.invariant.0 (omega (arith, c.type_inv.s (a.at + l.x-index))),
      or-zero l.bits x ∙ ap (λ (t : Bool). t && eqb x 0) l.invariant.1 ∙ sym (zero_run-snoc a.s.now a.at l.x-index),
    )
