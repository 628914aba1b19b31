use mathlib.Core.Path.{◌≡◌, sym, ◌∙◌}
use mathlib.Core.Bool.{cond}
use Prim.Native.Nat.{◌+◌, ◌≤◌}
use native.Mathlib.Nat.{zero-add}
use native.Mathlib.Omega.{arith}
use lib.ListN.{get_or}
use Rattle.octets.proofs.BoolLaws.{one-or-none}
use Rattle.block.specs.Content.{model_of}
use Rattle.block.specs.Image.{content_of}
use Rattle.verdict.specs.Kept.{if_clean}
use Rattle.verdict.proofs.PastEnd.{past_end}
use Rattle.set.proofs.PhaseLaws.{loses_by, lost-turn, lost-end}
use Rattle.set.proofs.lost.Goals as goal
use Rattle.set.proofs.lost.Goals.{in-Ok+then-is_status_of+then-loses_active, in-Ok+then-is_status_of+else-loses_active, in-Ok+else-is_status_of, in_default}

pub loop-k-init : goal.loop-k-init
loop-k-init c = (omega arith, λ s. sym (zero-add _))

pub loses_active-requires : goal.loses_active-requires
loses_active-requires c = c.requires.0

pub loop-k-preserved : goal.loop-k-preserved
loop-k-preserved c =
    let a = c.args in
    let l = c.loop-k in
    let n = model_of (content_of a.block.now) in
    let vs = (content_of a.block.now).vlans in
    let k = get_or a.kept.now l.k-index past_end in
    -- what a turn adds
    let turn : c.match-k.rows ≡ l.rows + cond (if_clean (loses_by n vs) k) 1 0 =
    elim c.match-k.branch [
      | in-Ok+then-is_status_of+then-loses_active w ↦ w.rows-is ∙ rw (w.in-Ok.is, ← w.is_status_of.ensures, w.if-is_status_of.true, ← w.loses_active.ensures, w.if-loses_active.true) (omega arith)
      | in-Ok+then-is_status_of+else-loses_active w ↦ w.rows-is ∙ rw (w.in-Ok.is, ← w.is_status_of.ensures, w.if-is_status_of.true, ← w.loses_active.ensures, w.if-loses_active.false) (omega arith)
      | in-Ok+else-is_status_of w ↦ w.rows-is ∙ rw (w.in-Ok.is, ← w.is_status_of.ensures, w.if-is_status_of.false) (omega arith)
      | in_default w ↦ w.rows-is ∙ rw w.in_default.is (omega arith)
    ] in
    let few : cond (if_clean (loses_by n vs) k) 1 0 ≤ 1 = one-or-none (if_clean (loses_by n vs) k) in (
      omega (arith, turn),
      λ s. l.invariant.1 s ∙ omega (arith, turn, lost-turn n vs s a.kept.now l.k-index c.loop-k-test.true),
    )

pub returns : goal.returns
returns c s =
    let a = c.args in
    let l = c.loop-k in
    omega (arith, l.invariant.1 s, lost-end (model_of (content_of a.block.now)) (content_of a.block.now).vlans s a.kept.now l.k-index c.loop-k-test.false)
