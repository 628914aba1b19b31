-- Octets and the shortest that say the same: at most as long, and the same where they are as long. Assumes nothing.
use Prim.Native.Nat.{ℕ, zero, suc, ◌+◌, ◌-◌, ◌≤◌, ◌<◌}
use mathlib.Core.Path.{◌≡◌, refl, sym, ap, ap₂, subst, ◌∙◌}
use mathlib.Core.Bool.{Bool, true, false, cond, ◌&&◌}
use mathlib.Core.List.{List, [], ◌∷◌, ◌++◌}
use native.Mathlib.Omega.{arith}
use native.Mathlib.Numerals.{add-one}
use borrow.Author.Tests.{lt-ltb, ltb-true, ltb-false, leb-true}
use lib.Dec.{leb, ltb}
use lib.ListN.{length, get_or, take, drop, length-append}
use lib.Seq.{drop-cons}
use Rattle.octets.specs.Numbers.{be_at, be_octets}
use Rattle.octets.specs.Parts.{part}
use Rattle.octets.proofs.PartLaws.{take-take-drop, part_length}
use Rattle.octets.proofs.NumberLaws.{Octets, be_at-one, be_octets-be_at, length-be_octets}
use Rattle.octets.proofs.BoolLaws.{both}
use Rattle.octets.proofs.OctetLaws.{octets-append, octets-part, octets-none, octets-cons, octets-be}
use Rattle.message.specs.declared.form.Field.{Field}
use Rattle.message.specs.Form.{field}
use Rattle.message.proofs.FormLaws.{clash, some-same}
use Rattle.std.specs.Prelude.{Option, Some, None}
use Rattle.ber.specs.Ber.{long_form, length_octets, length_said, field_with, field_at}
use Rattle.sending.specs.Writing.{length_form, header_form, ber_octets}
use Rattle.ber.proofs.BerLaws.{said-long}

-- ys is the shortest that says what xs says
pub record Least (xs ys : List ℕ) : Type 0 where
  pub shorter : length ys ≤ length xs
  pub same : length xs ≤ length ys → xs ≡ ys
  pub octets : Octets ys

pub least-same : (xs : List ℕ) → Octets xs → Least xs xs
least-same xs o = record { shorter = omega arith; same = λ h. refl; octets = o }

least-append : (a b c d : List ℕ) → Least a b → Least c d → Least (a ++ c) (b ++ d)
least-append a b c d v w =
    record {
      shorter = omega (arith, length-append a c, length-append b d, v.shorter, w.shorter);
      same = λ h.
          ap₂ ◌++◌ (v.same (omega (arith, length-append a c, length-append b d, w.shorter, h))) (w.same (omega (arith, length-append a c, length-append b d, v.shorter, h)));
      octets = octets-append b d v.octets w.octets;
    }

least-longer : (xs ys : List ℕ) → length ys < length xs → Octets ys → Least xs ys
least-longer xs ys h o = record { shorter = omega arith; same = λ k. absurd (omega (arith, h, k)); octets = o }

-- ## Lengths

form-length : (n : ℕ) → length (length_form n) ≡ cond (ltb n 128) 1 (cond (ltb n 256) 2 3)
unfolding length_form
form-length n = go (ltb n 128) (ltb n 256)
  where
    go : (a b : Bool) → length (cond a (n ∷ []) (cond b (0x81 ∷ n ∷ []) (0x82 ∷ be_octets 2 n))) ≡ cond a 1 (cond b 2 3)
    go true b = refl
    go false true = refl
    go false false = ap suc (length-be_octets 2 n)

form-more : (m n : ℕ) → m ≤ n → length (length_form m) ≤ length (length_form n)
form-more m n h = rw (form-length m, form-length n) (go (ltb m 128) (ltb m 256) (ltb n 128) (ltb n 256) refl refl refl refl)
  where
    go : (a b c d : Bool) → ltb m 128 ≡ a → ltb m 256 ≡ b → ltb n 128 ≡ c → ltb n 256 ≡ d → cond a 1 (cond b 2 3) ≤ cond c 1 (cond d 2 3)
    go true b true d p q r t = omega arith
    go true b false true p q r t = omega arith
    go true b false false p q r t = omega arith
    go false b true d p q r t = absurd (omega (arith, ltb-false m 128 p, ltb-true n 128 r, h))
    go false true false true p q r t = omega arith
    go false true false false p q r t = omega arith
    go false false false true p q r t = absurd (omega (arith, ltb-false m 256 q, ltb-true n 256 t, h))
    go false false false false p q r t = omega arith

form-most : (n : ℕ) → length (length_form n) ≤ 3
form-most n = rw (form-length n) (go (ltb n 128) (ltb n 256))
  where
    go : (a b : Bool) → cond a 1 (cond b 2 3) ≤ 3
    go true b = omega arith
    go false true = omega arith
    go false false = omega arith

pub octets-form : (n : ℕ) → Octets (length_form n)
unfolding length_form
octets-form n = go (ltb n 128) (ltb n 256) refl refl
  where
    go : (a b : Bool) → ltb n 128 ≡ a → ltb n 256 ≡ b → Octets (cond a (n ∷ []) (cond b (0x81 ∷ n ∷ []) (0x82 ∷ be_octets 2 n)))
    go true b p q = octets-cons n [] (omega (arith, ltb-true n 128 p)) octets-none
    go false true p q = octets-cons 0x81 (n ∷ []) (omega arith) (octets-cons n [] (ltb-true n 256 q) octets-none)
    go false false p q = octets-cons 0x82 (be_octets 2 n) (omega arith) (octets-be 2 n)

form-two : (n : ℕ) → ltb n 128 ≡ false → ltb n 256 ≡ true → length_form n ≡ 0x81 ∷ n ∷ []
unfolding length_form
form-two n p q = rw (p, q)

form-three : (n : ℕ) → ltb n 128 ≡ false → ltb n 256 ≡ false → length_form n ≡ 0x82 ∷ be_octets 2 n
unfolding length_form
form-three n p q = rw (p, q)

-- the length n in one octet, in two, in three
least-one : (n : ℕ) → n < 128 → Least (n ∷ []) (length_form n)
unfolding length_form
least-one n h = rw (lt-ltb n 128 h) (least-same (n ∷ []) (octets-cons n [] (omega arith) octets-none))

least-two : (n : ℕ) → n < 256 → Least (0x81 ∷ n ∷ []) (length_form n)
least-two n h = go (ltb n 128) refl
  where
    go : (a : Bool) → ltb n 128 ≡ a → Least (0x81 ∷ n ∷ []) (length_form n)
    go true p =
        let l : length (length_form n) ≡ 1 = form-length n ∙ rw p in
        least-longer (0x81 ∷ n ∷ []) (length_form n) (omega arith) (octets-form n)
    go false p = subst (Least (0x81 ∷ n ∷ [])) (sym (form-two n p (lt-ltb n 256 h))) (least-same (0x81 ∷ n ∷ []) (octets-cons 0x81 (n ∷ []) (omega arith) (octets-cons n [] h octets-none)))

least-three : (n : ℕ) → Least (0x82 ∷ be_octets 2 n) (length_form n)
least-three n = go (ltb n 128) (ltb n 256) refl refl
  where
    three : length (0x82 ∷ be_octets 2 n) ≡ 3
    three = ap suc (length-be_octets 2 n)

    go : (a b : Bool) → ltb n 128 ≡ a → ltb n 256 ≡ b → Least (0x82 ∷ be_octets 2 n) (length_form n)
    go true b p q =
        let l : length (length_form n) ≡ 1 = form-length n ∙ rw p in
        least-longer (0x82 ∷ be_octets 2 n) (length_form n) (omega (arith, three)) (octets-form n)
    go false true p q =
        let l : length (length_form n) ≡ 2 = form-length n ∙ rw (p, q) in
        least-longer (0x82 ∷ be_octets 2 n) (length_form n) (omega (arith, three)) (octets-form n)
    go false false p q = subst (Least (0x82 ∷ be_octets 2 n)) (sym (form-three n p q)) (least-same (0x82 ∷ be_octets 2 n) (octets-cons 0x82 (be_octets 2 n) (omega arith) (octets-be 2 n)))

part-cons : (s : List ℕ) (p n : ℕ) → p < length s → part s p (suc n) ≡ get_or s p 0 ∷ part s (p + 1) n
part-cons s p n h = ap (take (suc n)) (drop-cons s p 0 h) ∙ ap (λ (j : ℕ). get_or s p 0 ∷ take n (drop j s)) (sym (add-one p))

-- a length as it stands, in the short form and in the long one
short-form : (s : List ℕ) (p n : ℕ) → p < length s → n ≡ 1 → get_or s p 0 < 128 → Least (part s p n) (length_form (length_said s p n))
unfolding length_said
short-form s p n h e small = rw (e, part-cons s p 0 h) (least-one (get_or s p 0) small)

long-form : (s : List ℕ) (p n k : ℕ) → Octets s → p + n ≤ length s → n ≡ 2 + k → get_or s p 0 ≡ 129 + k → Least (part s p n) (length_form (length_said s p n))
long-form s p n zero o h e f =
    let i : n ≡ 2 = omega arith in
    let g : get_or s p 0 ≡ 129 = omega arith in
    let xs : part s p 2 ≡ 0x81 ∷ get_or s (p + 1) 0 ∷ [] = part-cons s p 1 (omega arith) ∙ ap₂ ◌∷◌ g (part-cons s (p + 1) 0 (omega arith)) in
    let v : length_said s p 2 ≡ get_or s (p + 1) 0 = sym (said-long s p 2 (λ z. omega (arith, z))) ∙ be_at-one s (p + 1) in
    rw (i, xs, v) (least-two (get_or s (p + 1) 0) (o (p + 1)))
long-form s p n (suc zero) o h e f =
    let i : n ≡ 3 = omega arith in
    let g : get_or s p 0 ≡ 130 = omega arith in
    let xs : part s p 3 ≡ 0x82 ∷ be_octets 2 (be_at s (p + 1) 2) = part-cons s p 2 (omega arith) ∙ ap₂ ◌∷◌ g (sym (be_octets-be_at s (p + 1) 2 o (omega arith))) in
    let v : length_said s p 3 ≡ be_at s (p + 1) 2 = sym (said-long s p 3 (λ z. omega (arith, z))) in
    rw (i, xs, v) (least-three (be_at s (p + 1) 2))
long-form s p n (suc (suc k)) o h e f =
    least-longer (part s p n) (length_form (length_said s p n)) (omega (arith, form-most (length_said s p n), part_length s p n h)) (octets-form (length_said s p n))

-- the octets of a length as they stand, and the shortest
least-length : (s : List ℕ) (p end n : ℕ) → Octets s → end ≤ length s → length_octets s p end ≡ Some n → Least (part s p n) (length_form (length_said s p n))
unfolding length_octets
least-length s p end n o l e = go (ltb p end) refl e
  where
    x : ℕ
    x = get_or s p 0

    inner : (t : Bool) → (long_form x && leb (p + (x - 127)) end) ≡ t → ◌≡◌ {A = Option ℕ} (cond t (Some (x - 127)) None) (Some n) → Least (part s p n) (length_form (length_said s p n))
    inner true q r =
        let i : x - 127 ≡ n = some-same r in
        let (f, h) = both (long_form x) (leb (p + (x - 127)) end) q in
        let (a, b) = both (ltb 128 x) (ltb x 255) f in
        let above : 128 < x = ltb-true 128 x a in
        long-form s p n (x - 129) o (omega (arith, leb-true (p + (x - 127)) end h)) (omega arith) (omega arith)
    inner false q r = clash (cc)

    mid : (t : Bool) → ltb x 128 ≡ t → p < end → ◌≡◌ {A = Option ℕ} (cond t (Some 1) (cond (long_form x && leb (p + (x - 127)) end) (Some (x - 127)) None)) (Some n)
        → Least (part s p n) (length_form (length_said s p n))
    mid true q k r = short-form s p n (omega arith) (sym (some-same r)) (ltb-true x 128 q)
    mid false q k r = inner (long_form x && leb (p + (x - 127)) end) refl r

    go : (t : Bool) → ltb p end ≡ t → ◌≡◌ {A = Option ℕ} (cond t (cond (ltb x 128) (Some 1) (cond (long_form x && leb (p + (x - 127)) end) (Some (x - 127)) None)) None) (Some n)
        → Least (part s p n) (length_form (length_said s p n))
    go true q r = mid (ltb x 128) refl (ltb-true p end q) r
    go false q r = clash (cc)

-- ## Fields

-- what a field that was read is
abbrev FieldIs : List ℕ → (at end : ℕ) → Option Field → Type 0
FieldIs s at end None = Unit {0}
FieldIs s at end (Some f) =
    (n : ℕ) × (length_octets s (at + 1) end ≡ Some n) × (f.tag ≡ get_or s at 0) × (f.start ≡ at + 1 + n) × (f.len ≡ length_said s (at + 1) n) × (f.start + f.len ≤ end)

field_is : (s : List ℕ) (at end : ℕ) → FieldIs s at end (field_at s at end)
unfolding field_at
field_is s at end = go (length_octets s (at + 1) end) refl
  where
    size : (n : ℕ) → length_octets s (at + 1) end ≡ Some n → (b : Bool) → leb (at + 1 + n + length_said s (at + 1) n) end ≡ b
        → FieldIs s at end (cond b (Some (field (get_or s at 0) (at + 1 + n) (length_said s (at + 1) n))) None)
    size n e true q = (n, e, refl, refl, refl, leb-true (at + 1 + n + length_said s (at + 1) n) end q)
    size n e false q = tt

    go : (k : Option ℕ) → length_octets s (at + 1) end ≡ k → FieldIs s at end (field_with s at end k)
    go None e = tt
    go (Some n) e = size n e (leb (at + 1 + n + length_said s (at + 1) n) end) refl

-- a field from its header and its contents
least-field : (tag : ℕ) (h k c : List ℕ) → Least h (header_form tag (length k)) → Least k c → Least (h ++ k) (ber_octets tag c)
unfolding ber_octets
least-field tag h k c v w =
    let more : length (length_form (length c)) ≤ length (length_form (length k)) = form-more (length c) (length k) w.shorter in
    let lx : length (h ++ k) ≡ length h + length k = length-append h k in
    let ly : length (header_form tag (length c) ++ c) ≡ 1 + length (length_form (length c)) + length c = length-append (header_form tag (length c)) c ∙ omega arith in
    record {
      shorter = omega (arith, v.shorter, w.shorter);
      same = λ q.
          let inner : k ≡ c = w.same (omega (arith, v.shorter, w.shorter, q)) in
          ap₂ ◌++◌ (v.same (omega (arith, w.shorter, q, ap length inner)) ∙ ap (λ (l : List ℕ). header_form tag (length l)) inner) inner;
      octets = octets-append (header_form tag (length c)) c (octets-cons tag (length_form (length c)) (v.octets 0) (octets-form (length c))) w.octets;
    }

-- what stands in s from an offset to another, and the shortest that says the same
pub record Shown (s : List ℕ) (at next : ℕ) (ys : List ℕ) : Type 0 where
  pub before : at ≤ next
  pub within : next ≤ length s
  pub least : Least (part s at (next - at)) ys

module _ (s : List ℕ) (o : Octets s) where
  pub shown-part : (at n next : ℕ) → at + n ≡ next → next ≤ length s → Shown s at next (part s at n)
  shown-part at n next e h =
      let k : next - at ≡ n = omega arith in
      record {
        before = omega arith;
        within = h;
        least = subst (λ (j : ℕ). Least (part s at j) (part s at n)) (sym k) (least-same (part s at n) (octets-part s at n o));
      }

  part-split : (a b c : ℕ) → a ≤ b → b ≤ c → part s a (b - a) ++ part s b (c - b) ≡ part s a (c - a)
  part-split a b c h k =
      let i : a + (b - a) ≡ b = omega arith in
      let j : b - a + (c - b) ≡ c - a = omega arith in
      ap (λ (m : ℕ). part s a (b - a) ++ part s m (c - b)) (sym i) ∙ take-take-drop s a (b - a) (c - b) ∙ ap (part s a) j

  pub shown-append : (a b c : ℕ) (ys zs : List ℕ) → Shown s a b ys → Shown s b c zs → Shown s a c (ys ++ zs)
  shown-append a b c ys zs v w =
      record {
        before = omega (arith, v.before, w.before);
        within = w.within;
        least = subst (λ (u : List ℕ). Least u (ys ++ zs)) (part-split a b c v.before w.before) (least-append (part s a (b - a)) ys (part s b (c - b)) zs v.least w.least);
      }

  pub shown-none : (at next : ℕ) → at ≡ next → next ≤ length s → Shown s at next []
  shown-none at next e h = shown-part at 0 next (omega arith) h

  -- the header of a field
  header : (at end tag start len : ℕ) → field_at s at end ≡ Some (field tag start len) → end ≤ length s → (at ≤ start) × (start + len ≤ end) × Least (part s at (start - at)) (header_form tag len)
  header at end tag start len e h =
      let (n, l, t, a, i, k) = subst (FieldIs s at end) e (field_is s at end) in
      let q : start - at ≡ suc n = omega arith in
      let first : part s at (start - at) ≡ get_or s at 0 ∷ part s (at + 1) n = ap (part s at) q ∙ part-cons s at n (omega arith) in
      let w : Least (part s (at + 1) n) (length_form len) = subst (λ (j : ℕ). Least (part s (at + 1) n) (length_form j)) (sym i) (least-length s (at + 1) end n o h l) in (
        omega arith,
        k,
        subst (λ (u : List ℕ). Least u (header_form tag len)) (sym (first ∙ ap (λ (j : ℕ). j ∷ part s (at + 1) n) (sym t)))
            (least-append (tag ∷ []) (tag ∷ []) (part s (at + 1) n) (length_form len) (least-same (tag ∷ []) (octets-cons tag [] (rw t (o at)) octets-none)) w),
      )

  -- a field whose contents are shown
  pub shown-field : (at end tag start len : ℕ) (c : List ℕ) → field_at s at end ≡ Some (field tag start len) → end ≤ length s → Shown s start (start + len) c → Shown s at (start + len) (ber_octets tag c)
  shown-field at end tag start len c e h w =
      let (a, b, v) = header at end tag start len e h in
      let n : length (part s start (start + len - start)) ≡ len = part_length s start (start + len - start) (omega arith) ∙ omega arith in
      let f : Least (part s at (start - at) ++ part s start (start + len - start)) (ber_octets tag c) =
      least-field tag (part s at (start - at)) (part s start (start + len - start)) c (subst (λ (j : ℕ). Least (part s at (start - at)) (header_form tag j)) (sym n) v) w.least in
      record {
        before = omega arith;
        within = w.within;
        least = subst (λ (u : List ℕ). Least u (ber_octets tag c)) (part-split at start (start + len) a (omega arith)) f;
      }
