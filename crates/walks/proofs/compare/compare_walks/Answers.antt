-- `walks::compare::compare_walks` meets its contract. Assumes nothing.
use mathlib.Core.Path.{sym, ◌∙◌}
use Rattle.walks.proofs.CompareLaws.{compared-first, compared-second}
use Rattle.walks.proofs.compare.compare_walks.Goals as goal

pub compare_read-requires : goal.compare_read-requires
compare_read-requires c = (sym c.judge.ensures ∙ c.in_default.is, sym c.judge-2.ensures ∙ c.in_default-judge.is)

pub returns-in-Err : goal.returns-in-Err
returns-in-Err c = (sym (compared-first _ _ _ c.judge.ensures c.in-Err.is), tt)

pub returns-in-Err-judge : goal.returns-in-Err-judge
returns-in-Err-judge c = (sym (compared-second _ _ _ (sym c.judge.ensures ∙ c.in_default.is) c.judge-2.ensures c.in-Err-judge.is), tt)
