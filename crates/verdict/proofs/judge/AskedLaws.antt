-- What a binding of a request holds: its name and its content are parts of the request, and names are equal where their octets are.
-- Assumes nothing.
use Prim.Native.Nat.{ℕ, ◌+◌, ◌%◌, ◌/◌, ◌≤◌, ◌<◌}
use mathlib.Core.Path.{◌≡◌, sym, ap, ◌∙◌, ap₂}
use mathlib.Core.Bool.{true, false, true≢false}
use mathlib.Core.List.{List, ◌∷◌}
use native.Mathlib.Nat.{zero-add}
use native.Mathlib.Numerals.{add-one}
use native.Mathlib.Omega.{arith}
use lib.Dec.{eqb, leb}
use lib.ListN.{length, drop, get_or}
use lib.Seq.{drop-cons}
use borrow.Author.Tests.{leb-true, eqb-true, le-leb}
use Rattle.octets.specs.Numbers.{be_at}
use Rattle.octets.specs.Parts.{part, same}
use Rattle.octets.proofs.NumberLaws.{Octets, be_at-same}
use Rattle.octets.proofs.PartLaws.{same_refl, same-eq, part_length, part-at}
use Rattle.octets.proofs.OctetLaws.{octets-part}
use Rattle.octets.proofs.BoolLaws.{by_bool}
use Rattle.names.specs.SubIds.{subids, name_octets}
use Rattle.names.proofs.SubIdLaws.{name_octets-subids}
use Rattle.message.specs.Form.{content_length}
use Rattle.message.specs.declared.request.Binding.{Binding}
use Rattle.verdict.specs.Kept.{Stands}

module _ (s : List ℕ) (p n : ℕ) (h : p + n ≤ length s) where
  -- a number in a part stands in the whole
  pub number-in-part : (w : ℕ) → w ≤ n → be_at (part s p n) 0 w ≡ be_at s p w
  number-in-part w l =
      be_at-same (part s p n) s 0 p w (λ i k. rw zero-add (part-at s p n i (omega arith)))

-- two parts of one list, compared from their ends on: equal from place i + 1 on, and at place i or not
module _ (s : List ℕ) (p q n : ℕ) (h : p + n ≤ length s) (k : q + n ≤ length s) (i : ℕ) (l : i < n) where
  pub ends-equal : get_or s (p + i) 0 ≡ get_or s (q + i) 0 → drop (i + 1) (part s p n) ≡ drop (i + 1) (part s q n) → drop i (part s p n) ≡ drop i (part s q n)
  ends-equal e r =
      drop-cons (part s p n) i 0 (rw (part_length s p n h) l)
      ∙ ap₂ (λ (x : ℕ) (xs : List ℕ). x ∷ xs) (part-at s p n i l ∙ e ∙ sym (part-at s q n i l)) (rw add-one at r)
      ∙ sym (drop-cons (part s q n) i 0 (rw (part_length s q n k) l))

  pub ends-differ : (get_or s (p + i) 0 ≡ get_or s (q + i) 0 → ⊥) → same (part s p n) (part s q n) ≡ false
  ends-differ d =
      by_bool (same (part s p n) (part s q n))
      (λ e. absurd (d (sym (part-at s p n i l) ∙ ap (λ (x : List ℕ). get_or x i 0) (same-eq (part s p n) (part s q n) e) ∙ part-at s q n i l)))
      (λ e. e)

-- parts of different lengths are different
pub other_length : (s : List ℕ) (p m q n : ℕ) → p + m ≤ length s → q + n ≤ length s → (m ≡ n → ⊥) → same (part s p m) (part s q n) ≡ false
other_length s p m q n h k d =
    by_bool (same (part s p m) (part s q n))
    (λ e. absurd (d (sym (part_length s p m h) ∙ ap length (same-eq (part s p m) (part s q n) e) ∙ part_length s q n k)))
    (λ e. e)

-- names of whole sub-ids are equal where their octets are
same-subids : (x y : List ℕ) → Octets x → Octets y → length x % 4 ≡ 0 → length y % 4 ≡ 0 → same (subids x) (subids y) ≡ same x y
same-subids x y o p h k =
    by_bool (same x y)
    (λ e. ap (λ (l : List ℕ). same (subids x) (subids l)) (sym (same-eq x y e)) ∙ same_refl (subids x) ∙ sym e)
    (λ e. by_bool (same (subids x) (subids y))
    (λ f.
    let q : x ≡ y =
    sym (name_octets-subids x (length x / 4) o (omega arith)) ∙ ap name_octets (same-eq (subids x) (subids y) f)
    ∙ name_octets-subids y (length y / 4) p (omega arith) in
    absurd (true≢false (sym (same_refl x) ∙ ap (same x) q ∙ e)))
    (λ f. f ∙ sym e))

-- the names of two bindings of one request
pub same_names : (s : List ℕ) (b e : Binding) → Octets s → Stands s b → Stands s e
    → same (subids (part s b.name b.size)) (subids (part s e.name e.size)) ≡ same (part s b.name b.size) (part s e.name e.size)
same_names s b e o f g =
    same-subids (part s b.name b.size) (part s e.name e.size) (octets-part s b.name b.size o) (octets-part s e.name e.size o)
    (rw (part_length s b.name b.size f.named) f.fours) (rw (part_length s e.name e.size g.named) g.fours)

-- a content that is no string has four octets
pub four-octets : (s : List ℕ) (b : Binding) → Stands s b → eqb b.tag 0x22 ≡ false → b.len ≡ 4
unfolding content_length
four-octets s b f t =
    let e : eqb b.len 4 ≡ true = rw (t, le-leb 0x21 b.tag f.tagged.0, le-leb b.tag 0x24 f.tagged.1) at f.sized in
    eqb-true b.len 4 e

-- no content is longer than 255 octets
pub brief : (s : List ℕ) (b : Binding) → Stands s b → b.len ≤ 255
unfolding content_length
brief s b f =
    by_bool (eqb b.tag 0x22)
    (λ t.
    let e : leb b.len 255 ≡ true = rw t at f.sized in
    leb-true b.len 255 e)
    (λ t. omega (arith, four-octets s b f t))
