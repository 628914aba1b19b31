use mathlib.Core.Path.{◌≡◌, refl, sym, ap, subst, ◌∙◌}
use mathlib.Core.Bool.{Bool, cond}
use mathlib.Core.List.{List}
use Prim.Native.Nat.{ℕ, ◌+◌}
use native.Mathlib.Omega.{arith}
use denote.Enum.Bare.{sameb}
use lib.Dec.{eqb}
use lib.ListN.{length, get_or, take}
use Rattle.std.specs.Prelude.{Ok}
use Rattle.block.specs.Content.{Content}
use Rattle.block.specs.Image.{content_of}
use Rattle.answer.specs.Judge.{Judged}
use Rattle.verdict.specs.Kept.{meant, meant_by}
use Rattle.verdict.specs.declared.judge.Kept.{Kept}
use Rattle.set.specs.contracts.Phase.{the_type}
use Rattle.set.specs.declared.Phase.{Phase}
use Rattle.set.specs.Phases.{pass, changed_by, phase_of, in_phase, FewRows, Becomes}
use Rattle.set.proofs.PhaseLaws.{phase-same, no-phase, phase-more}
use Rattle.verdict.proofs.PastEnd.{past_end}
use Rattle.set.proofs.write_phase.Goals as goal
use Rattle.set.proofs.write_phase.Goals.{in-Ok+then-eq, in-Ok+else-eq, in_default}

pub loop-k-init : goal.loop-k-init
unfolding in_phase
loop-k-init c = (refl, c.requires.0, λ d e few. e)

pub write_kept-requires : goal.write_kept-requires
write_kept-requires c =
    let k = c.loop-k.k-index in
    let h = c.loop-k-test.true in
    (c.loop-k.invariant.1, rw c.in-Ok.is at (c.requires.1.fits k past_end h), rw c.in-Ok.is at (c.requires.1.within k past_end h))

-- whether a clean kept binding is of the phase that is being written
told : (s : List ℕ) (q : Kept) (r p : Phase) {e t : Bool} → pass r ≡ phase_of (meant s (Ok q)) → e ≡ sameb the_type r p → e ≡ t
    → eqb (phase_of (meant s (Ok q))) (pass p) ≡ t
told s q r p a b c = rw (← a) (sym (phase-same r p) ∙ sym b ∙ c)

-- the content after a kept binding of a message, by the phase that is being written
abbrev turned : ℕ → Content → Judged → Content
turned p c b = cond (eqb (phase_of b) p) (changed_by c b) c

pub loop-k-preserved : goal.loop-k-preserved
loop-k-preserved c =
    let a = c.args in
    let l = c.loop-k in
    let p = pass a.phase in
    let s = a.request.now in
    let b : Judged = meant s (get_or a.kept.now l.k-index past_end) in
    -- what a turn leaves
    let t : (length c.match-k.block ≡ length l.block) × Becomes (turned p (content_of l.block) b) c.match-k.block =
    elim c.match-k.branch [
      | in-Ok+then-eq w ↦ rw (w.block-is, w.in-Ok.is)
          (w.write_kept.auto.block, rw (told s w.in-Ok.q w.phase_of.result a.phase (w.phase_of.ensures s) w.eq.ensures w.if-eq.true) w.write_kept.ensures)
      | in-Ok+else-eq w ↦ rw (w.block-is, w.in-Ok.is)
          (refl, rw (told s w.in-Ok.q w.phase_of.result a.phase (w.phase_of.ensures s) w.eq.ensures w.if-eq.false) (record { written = l.invariant.1; content = λ few. refl }))
      | in_default w ↦ rw (w.block-is, w.in_default.is) (refl, rw (no-phase a.phase) (record { written = l.invariant.1; content = λ few. refl }))
    ] in (
      t.0 ∙ l.invariant.0,
      t.1.written,
      λ d e few.
          let before : content_of l.block ≡ in_phase p d (meant_by s (take l.k-index a.kept.now)) = l.invariant.2 d e (λ j h. few j (omega arith)) in
          let after : turned p (content_of l.block) b ≡ in_phase p d (meant_by s (take (l.k-index + 1) a.kept.now)) =
          ap (λ (x : Content). turned p x b) before ∙ sym (phase-more p d s a.kept.now l.k-index past_end c.loop-k-test.true) in
          t.1.content (subst FewRows (sym after) (few (l.k-index + 1) (omega arith))) ∙ after,
    )

pub shape_of-block : goal.shape_of-block
shape_of-block c = c.loop-k.invariant.0
