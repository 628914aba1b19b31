use mathlib.Core.Path.{◌≡◌, sym, ap, ◌∙◌}
use mathlib.Core.List.{List}
use Prim.Native.Nat.{ℕ}
use native.Mathlib.Omega.{arith}
use lib.ListN.{get_or, length, take}
use lib.Seq.{take-length}
use borrow.Author.Tests.{eq-eqb, ne_eqb}
use Rattle.std.specs.Prelude.{Result}
use Rattle.std.proofs.lemmas.List.{get_or_read}
use Rattle.block.specs.Cells.{timer_in}
use Rattle.block.specs.Image.{content_of}
use Rattle.block.proofs.RoundLaws.{legal-valid, legal-sized}
use Rattle.block.proofs.ValidParts.{valid-parts}
use Rattle.answer.specs.Set.{gather, set_cells, resulting_cells}
use Rattle.verdict.specs.Kept.{meant_by_with}
use Rattle.verdict.specs.declared.judge.Kept.{Kept}
use Rattle.verdict.proofs.PastEnd.{past_end}
use Rattle.verdict.proofs.faults.TimerLaws.{timer_by, timer-more}
use Rattle.verdict.proofs.faults.resulting_timer.Goals as goal
use Rattle.verdict.proofs.faults.resulting_timer.Goals.{in-Ok+then-q-place, in-Ok+else-q-place, in_default}

pub timer-value-requires : goal.timer-value-requires
timer-value-requires g c = ((legal-sized _ c.requires.0).long, c.requires.2)

pub loop-k-init : goal.loop-k-init
unfolding gather set_cells
loop-k-init g c = λ n s. c.timer-value.ensures

pub loop-k-preserved : goal.loop-k-preserved
loop-k-preserved g c =
    let l = c.loop-k in
    let a = c.args in
    let here = get_or_read a.kept.now c.loop-k.k-index c.k-item.result c.loop-k-test.true c.k-item.is past_end in
    let k : Result Kept g.row.E.Denot = get_or a.kept.now l.k-index past_end in
    let d = content_of a.block.now in
    let turned : c.match-k.value ≡ timer_by a.place l.value k =
    elim c.match-k.branch [
      | in-Ok+then-q-place w ↦ rw (← here, w.in-Ok.is, eq-eqb _ _ w.if-q-place.true) w.value-is
      | in-Ok+else-q-place w ↦ rw (← here, w.in-Ok.is, ne_eqb _ _ w.if-q-place.false) w.value-is
      | in_default w ↦ rw (← here, w.in_default.is) w.value-is
    ] in
    λ n s.
    turned
    ∙ ap (λ (v : ℕ). timer_by a.place v k) (l.invariant n s)
    ∙ sym (timer-more n d s a.kept.now l.k-index past_end a.place c.loop-k-test.true c.requires.2 (valid-parts d (legal-valid _ c.requires.0).0).cell_count (c.requires.1 l.k-index past_end c.loop-k-test.true))

pub returns : goal.returns
returns g c n s =
    let l = c.loop-k in
    let a = c.args in
    let d = content_of a.block.now in
    let e : l.k-index ≡ length a.kept.now = omega (arith, l.auto.k-index-end, c.loop-k-test.false) in
    l.invariant n s
    ∙ ap (λ (j : ℕ). timer_in (resulting_cells d (meant_by_with n s (take j a.kept.now))) a.place) e
    ∙ ap (λ (qs : List (Result Kept g.row.E.Denot)). timer_in (resulting_cells d (meant_by_with n s qs)) a.place) (take-length a.kept.now)
