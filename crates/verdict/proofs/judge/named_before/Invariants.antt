-- `verdict::judge::named_before` meets its contract. The invariant: the answer is that of the earlier names left. Assumes nothing.
use mathlib.Core.Path.{◌≡◌}
use lib.ListN.{drop}
use Rattle.answer.specs.Judge.{among}
use Rattle.verdict.specs.Kept.{named_before}
use Rattle.verdict.proofs.judge.JudgedLaws.{name_of, names_of}
use Rattle.verdict.proofs.judge.named_before.Given as goal

abbrev pub invariant-loop-e : goal.invariant-loop-e
invariant-loop-e l = named_before l.request l.earlier l.fn.b ≡ among (name_of l.request l.fn.b) (drop l.e-index (names_of l.request l.earlier))
