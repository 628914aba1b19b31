use mathlib.Core.Path.{◌∙◌}
use Rattle.std.proofs.lemmas.List.{get_or_read}
use Rattle.answer.specs.Writes.{is_status}
use Rattle.verdict.proofs.PastEnd.{past_end}
use Rattle.verdict.proofs.faults.PortSetLaws.{status-row, reached-more, reached-all}
use Rattle.verdict.proofs.faults.after_statuses.Goals as goal
use Rattle.verdict.proofs.faults.after_statuses.Goals.{in-Ok+then-is_status_of-key, in-Ok+else-is_status_of-key, in_default}

pub loop-k-preserved : goal.loop-k-preserved
loop-k-preserved g c =
    let l = c.loop-k in
    let a = c.args in
    let here = get_or_read a.kept.now c.loop-k.k-index c.k-item.result c.loop-k-test.true c.k-item.is past_end in
    λ n m s o e.
    reached-more n m is_status s a.key a.kept.now l.k-index c.loop-k-test.true l.after c.match-k.after _
    (λ p f.
    elim c.match-k.branch [
      | in-Ok+then-is_status_of-key w ↦ rw (← here, w.in-Ok.is, status-row m s a.key w.in-Ok.q p, ← w.is_status_of.ensures, w.if-is_status_of-key.true) (w.after-is ∙ w.with_status-after.ensures m _ p f)
      | in-Ok+else-is_status_of-key w ↦ rw (← here, w.in-Ok.is, status-row m s a.key w.in-Ok.q p, ← w.is_status_of.ensures, w.if-is_status_of-key.false) (w.after-is ∙ f)
      | in_default w ↦ rw (← here, w.in_default.is) (w.after-is ∙ f)
    ])
    (l.invariant n m s o e)

pub returns : goal.returns
returns g c =
    λ n m s o e. reached-all n m is_status s c.args.key c.args.kept.now c.loop-k.k-index c.loop-k-test.false _ _ (c.loop-k.invariant n m s o e)
