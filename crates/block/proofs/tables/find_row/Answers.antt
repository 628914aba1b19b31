-- `block::tables::find_row` meets its contract: halving finds the key among ascending rows. Assumes nothing.
use mathlib.Core.Path.{◌≡◌, ap, subst, ◌∙◌}
use Prim.Native.Nat.{ℕ}
use Rattle.block.specs.Image.{content_of}
use Rattle.block.specs.Lookup.{Place, Ascending, keys_of}
use Rattle.block.specs.Tables.{rows_of}
use Rattle.block.proofs.HalvingLaws.{keys_at, halving-finds}
use Rattle.block.proofs.StandingLaws.{stands, rows_inside}
use Rattle.block.proofs.ReadLaws.{keys-are, many-in}
use Rattle.block.proofs.tables.find_row.Goals as goal

pub find-place-requires : goal.find-place-requires
find-place-requires c =
    let d = c.before.before.before.before in
    let b = d.args.block.now in
    let s = stands d.args.t in
    rw (c.row_count-n.ensures, many-in b d.args.t, c.standing_of-at.ensures) (rows_inside b d.args.t d.requires.0, s.2, s.3)

pub returns : goal.returns
returns c =
    let a = c.before.before.before.before.before in
    let b = a.args.block.now in
    let at = c.standing_of-at.result in
    let e : keys_of (rows_of a.args.t (content_of b)) ≡ keys_at at.key at.width b at.rows c.row_count-n.result =
    rw (keys-are b a.args.t, ← many-in b a.args.t, ← c.row_count-n.ensures, c.standing_of-at.ensures) in
    rw e (ap (λ (p : Place × ℕ). p.0) c.find-place.ensures ∙ halving-finds a.args.key _ (subst Ascending e a.requires.1))
