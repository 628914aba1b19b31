-- `verdict::judge::judge_each` meets its contract. The invariant: the bindings so far are judged. Assumes nothing.
use Rattle.verdict.proofs.judge.JudgedLaws.{JudgedTo}
use Rattle.verdict.proofs.judge.judge_each.Given as goal

abbrev pub invariant-loop-i : goal.invariant-loop-i
invariant-loop-i l = JudgedTo l.m l.request l.bindings l.kept l.i
