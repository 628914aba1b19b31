use native.Mathlib.Omega.{arith}
use borrow.Author.Rules.{rules}
use mathlib.Core.Path.{refl, ap, ◌∙◌}
use Rattle.message.specs.Request.{ended}
use Rattle.sending.proofs.SendLaws.{handed}
use Rattle.sending.proofs.ResponseLaws.{sofar-none, sofar-more, sofar-all, sofar-refused, sofar-full}
use Rattle.sending.proofs.response.read_answers.Goals as goal

pub loop-at-init : goal.loop-at-init
loop-at-init c = sofar-none _ (search rules)

pub returns-then-n-eq-MOST_BINDINGS : goal.returns-then-n-eq-MOST_BINDINGS
returns-then-n-eq-MOST_BINDINGS c = (ap ended c.seventeenth_at.ensures ∙ sofar-full _ c.loop-at.invariant (omega arith) c.loop-at-test.true, tt)

pub returns-in_err-read : goal.returns-in_err-read
returns-in_err-read c =
    let e = sofar-refused _ c.loop-at.invariant (omega (arith, c.loop-at.invariant.few)) c.loop-at-test.true c.in_err-read.ensures refl in
    rw (handed _ _ c.from_residual.ensures.1) (e, tt)

pub loop-at-preserved : goal.loop-at-preserved
loop-at-preserved c = sofar-more _ c.loop-at.invariant (omega (arith, c.loop-at.invariant.few)) c.loop-at-test.true c.in_ok-read.ensures refl

pub returns : goal.returns
returns c = (sofar-all _ c.loop-at.invariant c.loop-at-test.false, c.loop-at.invariant.few)
