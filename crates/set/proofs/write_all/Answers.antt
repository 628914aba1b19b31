-- `set::write_all` meets its contract: VlanNumDeletes grows, and then the three phases leave what an accepted set leaves. Assumes nothing.
use mathlib.Core.Path.{◌≡◌, sym, ap, ◌∙◌}
use mathlib.Core.Bool.{true}
use mathlib.Core.List.{List}
use Prim.Native.Nat.{ℕ}
use Rattle.block.specs.Content.{Content, WellFormed, deletes_more}
use Rattle.block.specs.Image.{image, content_of}
use Rattle.block.specs.Valid.{legal}
use Rattle.answer.specs.Judge.{Judged}
use Rattle.block.proofs.RoundLaws.{legal-valid}
use Rattle.verdict.specs.Kept.{meant_by}
use Rattle.set.proofs.WholeLaws.{whole-deletes, written-image, written-legal}
use Rattle.set.proofs.PhaseParts.{counted}
use Rattle.set.proofs.SetLaws.{phases-leave}
use Rattle.set.proofs.write_all.Goals as goal

pub add_deletes-requires : goal.add_deletes-requires
add_deletes-requires c =
    let a = c in
    (legal-valid a.args.block.now a.requires.0).2

-- the block once VlanNumDeletes has grown
grown : (b x : List ℕ) (m : List Judged) (r : ℕ) → legal b ≡ true → ((d : Content) → WellFormed d → b ≡ image d → x ≡ image (deletes_more d r))
    → deletes_more (content_of b) r ≡ counted (content_of b) m → x ≡ image (counted (content_of b) m)
grown b x m r lawful more rows =
    let w = written-legal lawful in
    more (content_of b) w.whole.stored.shape (sym w.same) ∙ ap image rows

pub write_phase-requires : goal.write_phase-requires
write_phase-requires c =
    let a = c.args in
    let more = grown a.block.now c.add_deletes.new.block (meant_by a.request.now a.kept.now) c.lost-rows.result c.requires.0 c.add_deletes.ensures
    (ap (deletes_more (content_of a.block.now)) (c.lost-rows.ensures a.request.now)) in
    (written-image (whole-deletes (written-legal c.requires.0).whole _) more, c.requires.2)

pub returns : goal.returns
returns c one few =
    let a = c.args in
    let more = grown a.block.now c.add_deletes.new.block (meant_by a.request.now a.kept.now) c.lost-rows.result c.requires.0 c.add_deletes.ensures
    (ap (deletes_more (content_of a.block.now)) (c.lost-rows.ensures a.request.now)) in
    sym c.write_phase-3.ensures.0.same
    ∙ ap image
    (phases-leave a.request.now a.kept.now (content_of a.block.now)
    (written-legal c.requires.0).whole one few c.add_deletes.new.block c.write_phase.new.block
    c.write_phase-2.new.block c.write_phase-3.new.block more c.write_phase.ensures.1 c.write_phase-2.ensures.1
    c.write_phase-3.ensures.1)
