use Prim.Native.Nat.{◌<◌}
use mathlib.Core.Path.{sym, ◌∙◌}
use native.Mathlib.Omega.{arith}
use lib.ListN.{length}
use Rattle.verdict.proofs.judge.JudgedLaws.{judged-none, judged-again, judged-fresh}
use Rattle.verdict.proofs.judge.judge_each.Goals as goal
use Rattle.verdict.proofs.judge.judge_each.Goals.{then-named_before, else-named_before}

pub loop-i-init : goal.loop-i-init
loop-i-init c = judged-none _ _ _ _

pub loop-i-preserved : goal.loop-i-preserved
loop-i-preserved c =
    let l = c.loop-i in
    let h = c.loop-i-test.true in
    let k : l.i < length l.kept = omega (arith, h, l.auto.kept, c.requires.3) in
    elim c.if-named_before.branch [
      | then-named_before w ↦ rw w.kept-is (judged-again _ _ _ _ h _ k l.invariant (sym c.named_before.ensures ∙ w.if-named_before.true))
      | else-named_before w ↦ rw w.kept-is (judged-fresh _ _ _ _ h _ k l.invariant (sym c.named_before.ensures ∙ w.if-named_before.false) _ w.judged_alone.ensures.0 w.judged_alone.ensures.1)
    ]
