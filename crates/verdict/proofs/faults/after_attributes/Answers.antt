use mathlib.Core.Path.{sym, ap, ◌∙◌}
use mathlib.Core.Bool.{not}
use Rattle.std.specs.Prelude.{Some}
use Rattle.std.proofs.lemmas.List.{get_or_read}
use Rattle.answer.specs.Writes.{is_status}
use Rattle.verdict.specs.declared.faults.Sets.{Sets}
use Rattle.verdict.proofs.PastEnd.{past_end}
use Rattle.verdict.proofs.faults.PortSetLaws.{on_some, sets_with, with-key, with-other, attribute-row, reached-more, reached-all}
use Rattle.verdict.proofs.faults.after_attributes.Goals as goal
use Rattle.verdict.proofs.faults.after_attributes.Goals.{in-Ok+then-key-q, in-Ok+else-key-q, in_default}

pub loop-k-preserved : goal.loop-k-preserved
loop-k-preserved g c =
    let l = c.loop-k in
    let a = c.args in
    let here = get_or_read a.kept.now c.loop-k.k-index c.k-item.result c.loop-k-test.true c.k-item.is past_end in
    λ n m s o e.
    reached-more n m (λ y. not (is_status y)) s a.key a.kept.now l.k-index c.loop-k-test.true (Some l.after) (Some c.match-k.after) _
    (λ p f.
    elim c.match-k.branch [
      | in-Ok+then-key-q w ↦ rw (← here, w.in-Ok.is) (ap (λ (x : Sets). Some x) (w.after-is ∙ w.with_attribute-after.ensures ∙ sym (with-key a.key w.in-Ok.q l.after w.if-key-q.true)) ∙ ap (on_some (sets_with a.key w.in-Ok.q)) f ∙ sym (attribute-row m s a.key w.in-Ok.q p))
      | in-Ok+else-key-q w ↦ rw (← here, w.in-Ok.is) (ap (λ (x : Sets). Some x) (w.after-is ∙ sym (with-other a.key w.in-Ok.q l.after w.if-key-q.false)) ∙ ap (on_some (sets_with a.key w.in-Ok.q)) f ∙ sym (attribute-row m s a.key w.in-Ok.q p))
      | in_default w ↦ rw (← here, w.in_default.is) (ap (λ (x : Sets). Some x) w.after-is ∙ f)
    ])
    (l.invariant n m s o e)

pub returns : goal.returns
returns g c =
    λ n m s o e. reached-all n m (λ y. not (is_status y)) s c.args.key c.args.kept.now c.loop-k.k-index c.loop-k-test.false _ _ (c.loop-k.invariant n m s o e)
