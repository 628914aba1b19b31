-- The statements of `specs/Theorems.antt`, proved. Assumes nothing.
use Prim.Native.Nat.{ℕ}
use native.Mathlib.Omega.{arith}
use mathlib.Core.Path.{◌≡◌, refl, sym, ap, ◌∙◌}
use mathlib.Core.Bool.{Bool, true, false, cond}
use mathlib.Core.Option.{none, some}
use mathlib.Core.List.{List, [], ◌∷◌}
use lib.Dec.{eqb}
use borrow.Author.Tests.{eqb-true}
use Rattle.names.specs.Index.{can_have, index}
use Rattle.names.specs.declared.Shape.TheVariants.{Static}
use Rattle.octets.specs.Ascending.{Rising}
use Rattle.names.specs.declared.model.Model.{Model}
use Rattle.block.specs.Content.{Content, with_statics, model_of}
use Rattle.block.specs.Image.{image, content_of}
use Rattle.block.specs.Lookup.{keys_of, lookup}
use Rattle.block.specs.Valid.{static_ok, valid, legal}
use Rattle.block.specs.declared.rows.StaticRow.{StaticRow}
use Rattle.block.specs.declared.tables.Table.TheVariants.{Static as static}
use Rattle.block.proofs.ValidParts.{Valid, valid-parts}
use Rattle.block.proofs.KeepLaws.{RowsOk, rows_ok-parts, parts-rows_ok, rows_ok-rising, valid-rows, least_zero}
use Rattle.block.proofs.RoundLaws.{content_of-image, legal-image, legal-valid}
use Rattle.block.proofs.AlterLaws.{look-below}
use Rattle.reset.specs.Reset.{goes, stay, after_reset, reset_block}
use Rattle.reset.specs.Theorems.{ResetKeepsLegal, ResetKeepsEdition, ResetKeepsDevice, ResetTwice, row_after, ResetRows}
use Rattle.reset.proofs.ResetLaws.{stay-short, all_stay, rising-stay, stay-twice}

-- a valid content stays valid
pub reset-valid : (c : Content) → valid c ≡ true → valid (after_reset c) ≡ true
reset-valid c e =
    let v : Valid c = valid-parts c e in
    let m : Model = model_of c in
    let p : RowsOk m Static (static_ok m) 0 c.statics = rows_ok-parts m Static (static_ok m) 0 c.statics (v.rows_in static) in
    valid-rows c e static (stay c.statics)
    (parts-rows_ok m Static (static_ok m) 0 (stay c.statics)
    (record {
      rising = rising-stay c.statics p.rising;
      least = least_zero (keys_of (stay c.statics));
      each = all_stay (λ e. (can_have m Static (index Static e.0) ≡ true) × (static_ok m e.1 ≡ true)) c.statics p.each;
    }))
    (omega (arith, stay-short c.statics, v.few static))

-- the block after a reset of a legal one
legal-reset : (b : List ℕ) → legal b ≡ true → reset_block b ≡ image (after_reset (content_of b))
legal-reset b e = ap (λ (t : Bool). cond t (image (after_reset (content_of b))) b) e

pub keeps-legal : ResetKeepsLegal
keeps-legal b e =
    let v : valid (after_reset (content_of b)) ≡ true = reset-valid (content_of b) (legal-valid b e).0 in
    (rw (legal-reset b e) (legal-image (after_reset (content_of b)) v), ap content_of (legal-reset b e) ∙ content_of-image (after_reset (content_of b)) v)

-- what set-up fixed stays, of any octets
keeps-model : (b : List ℕ) → model_of (content_of (reset_block b)) ≡ model_of (content_of b)
keeps-model b = go (legal b) refl
  where
    go : (t : Bool) → legal b ≡ t → model_of (content_of (reset_block b)) ≡ model_of (content_of b)
    go true e = ap model_of (keeps-legal b e).1
    go false e = ap (λ (t : Bool). model_of (content_of (cond t (image (after_reset (content_of b))) b))) e

pub keeps-edition : ResetKeepsEdition
keeps-edition b = ap (λ (m : Model). m.edition) (keeps-model b)

pub keeps-device : ResetKeepsDevice
keeps-device b = ap (λ (m : Model). m.device) (keeps-model b)

pub twice : ResetTwice
twice b = go (legal b) refl
  where
    go : (t : Bool) → legal b ≡ t → reset_block (reset_block b) ≡ reset_block b
    go true e =
        let k = keeps-legal b e in
        legal-reset (reset_block b) k.0 ∙ ap (λ (c : Content). image (after_reset c)) k.1
        ∙ ap (λ (es : List (ℕ × StaticRow)). image (with_statics (content_of b) es)) (stay-twice (content_of b).statics)
        ∙ sym (legal-reset b e)
    go false e = ap reset_block (ap (λ (t : Bool). cond t (image (after_reset (content_of b))) b) e)

lookup-stay : (k : ℕ) (es : List (ℕ × StaticRow)) → Rising (keys_of es) → lookup k (stay es) ≡ row_after (lookup k es)
unfolding lookup stay
lookup-stay k [] h = refl
lookup-stay k (e ∷ es) h = go (goes e.1) refl (eqb e.0 k) refl (lookup-stay k es h.1)
  where
    go : (a : Bool) → goes e.1 ≡ a → (b : Bool) → eqb e.0 k ≡ b → lookup k (stay es) ≡ row_after (lookup k es)
        → lookup k (cond a (stay es) (e ∷ stay es)) ≡ row_after (cond b (some e.1) (lookup k es))
    go true p true q r =
        let n : lookup k es ≡ none = rw (sym (eqb-true e.0 k q)) (look-below e.0 es h.0) in
        r ∙ ap row_after n ∙ rw p
    go true p false q r = r
    go false p true q r = rw (q, p)
    go false p false q r = rw q r

pub rows : ResetRows
rows b k e =
    ap (λ (c : Content). lookup k c.statics) (keeps-legal b e).1
    ∙ lookup-stay k (content_of b).statics
    (rows_ok-rising (model_of (content_of b)) Static (static_ok (model_of (content_of b))) 0 (content_of b).statics ((valid-parts (content_of b) (legal-valid b e).0).rows_in static))
