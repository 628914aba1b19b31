use mathlib.Core.Path.{sym, ap, ◌∙◌}
use Rattle.ber.specs.Ber.{fewest}
use Rattle.sending.specs.Writing.{shortened}
use Rattle.sending.proofs.WriteLaws.{short-here, short-next, short-none}
use Rattle.sending.proofs.writing.shortest.Goals as goal

pub returns-then-in_fewest : goal.returns-then-in_fewest
returns-then-in_fewest c = short-here _ (sym c.in_fewest.ensures ∙ c.if-in_fewest.true) ∙ c.loop-tail.invariant

pub loop-tail-preserved : goal.loop-tail-preserved
loop-tail-preserved c =
    let e = c.in-Some.ensures.cases.0 in
    short-next _ _ (ap fewest (sym e) ∙ sym c.in_fewest.ensures ∙ c.if-in_fewest.false) ∙ ap shortened (sym e) ∙ c.loop-tail.invariant

pub returns : goal.returns
returns c = short-none _ c.in_default.ensures.cases ∙ c.loop-tail.invariant
