use mathlib.Core.Path.{◌≡◌, ap, ◌∙◌, sym}
use Prim.Native.Nat.{ℕ}
use native.Mathlib.Omega.{arith}
use Rattle.octets.proofs.NumberLaws.{put_at, put_at-turn, put_at-patch}
use Rattle.octets.proofs.numbers.put.Goals as goal

pub loop-i-preserved : goal.loop-i-preserved
loop-i-preserved c =
    let l = c.loop-i in
    sym (put_at-turn l.s c.args.at l.i l.left (omega arith)) ∙ l.invariant

pub returns : goal.returns
unfolding put_at
returns c =
    let l = c.loop-i in
    let a = c.args in
    let e : l.i ≡ 0 = omega arith in
    sym (ap (λ (k : ℕ). put_at l.s a.at k l.left) e) ∙ l.invariant ∙ put_at-patch a.s.now a.at a.w a.v (omega arith)
