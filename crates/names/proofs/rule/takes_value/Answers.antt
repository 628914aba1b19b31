-- `names::rule::takes_value` meets its contract. Assumes nothing.
use native.Mathlib.Omega.{arith}
use Rattle.names.proofs.RuleLaws.{step-in-positive}
use Rattle.names.proofs.rule.takes_value.Goals as goal

pub nonzero_rem-result : goal.nonzero_rem-result
nonzero_rem-result c = omega (arith, c.step_in-step.ensures, step-in-positive c.args.edition c.args.o c.requires)

pub returns : goal.returns
returns c = rw (← c.step_in-step.ensures, ← c.in_frames.ensures)
