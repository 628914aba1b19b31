-- Laws of fields, numbers and names in BER. Assumes nothing.
use Prim.Native.Nat.{ℕ, zero, suc, ◌+◌, ◌*◌, ◌-◌, ◌≤◌, ◌<◌}
use mathlib.Core.Path.{◌≡◌, refl, sym, ap, subst, ◌∙◌}
use mathlib.Core.Bool.{Bool, true, false, cond, not, ◌&&◌}
use mathlib.Core.List.{List, [], ◌∷◌, ◌++◌, append-nil}
use native.Mathlib.Omega.{arith}
use native.Mathlib.Numerals.{add-one}
use borrow.Author.Tests.{lt-ltb, le-ltb, le-leb, lt-leb, eq-eqb, ne_eqb, eqb-true, leb-true, leb-false, ltb-true, ltb-false}
use lib.Dec.{leb, ltb, eqb}
use lib.ListN.{length-take, length-drop, length, get_or, take, drop, replicate, length-replicate, replicate-append-replicate, drop_of_length-le}
use lib.Seq.{drop-cons}
use Rattle.octets.specs.Numbers.{be_at}
use Rattle.octets.specs.Parts.{part, patch}
use Rattle.octets.proofs.PartLaws.{patch-mid, part-at, part-first, part_length}
use Rattle.octets.proofs.NumberLaws.{be_at-one, be_at-more, be_at-same}
use Rattle.octets.proofs.BoolLaws.{left-of, right_of}
use Rattle.message.specs.declared.form.Field.{Field}
use Rattle.message.specs.Form.{field}
use Rattle.message.specs.declared.refusals.Reason.{Reason}
use Rattle.message.specs.declared.refusals.Reason.TheVariants.{DatagramBroken}
use Rattle.ber.specs.declared.Part.{Part}
use Rattle.ber.specs.Ber.{◌>>=◌, long_form, length_octets, length_said, at_most, whole_if, field_with, field_at, whole_field, part_at, number_at, fewest, sign, five, ends_from, name_whole}
use Rattle.std.specs.Prelude.{Option, Some, None, ok_or, Result, Ok, Err}

-- ## The length octets

pub octets-out : (s : List ℕ) (at end : ℕ) → end ≤ at → None ≡ length_octets s at end
unfolding length_octets
octets-out s at end h = rw (le-ltb at end h)

-- the octets of a length stand within the enclosure
abbrev pub Stands : (at end : ℕ) → Option ℕ → Type 0
Stands at end None = Unit
Stands at end (Some n) = (0 < n) × (at + n ≤ end)

octets-stand : (s : List ℕ) (at end : ℕ) → Stands at end (length_octets s at end)
unfolding length_octets
octets-stand s at end = go (ltb at end) refl
  where
    x : ℕ
    x = get_or s at 0

    inner : (t : Bool) → long_form x && leb (at + (x - 127)) end ≡ t → Stands at end (cond t (Some (x - 127)) None)
    inner true e = (
      omega (arith, ltb-true 128 x (left-of (ltb 128 x) (ltb x 255) (left-of (long_form x) (leb (at + (x - 127)) end) e))),
      leb-true (at + (x - 127)) end (right_of (long_form x) (leb (at + (x - 127)) end) e),
    )
    inner false e = tt

    mid : (u : Bool) → at < end → Stands at end (cond u (Some 1) (cond (long_form x && leb (at + (x - 127)) end) (Some (x - 127)) None))
    mid true k = (omega arith, omega arith)
    mid false k = inner (long_form x && leb (at + (x - 127)) end) refl

    go : (t : Bool) → ltb at end ≡ t → Stands at end (cond t (cond (ltb x 128) (Some 1) (cond (long_form x && leb (at + (x - 127)) end) (Some (x - 127)) None)) None)
    go true e = mid (ltb x 128) (ltb-true at end e)
    go false e = tt

pub octets-within : (s : List ℕ) (at end : ℕ) {n : ℕ} → Some n ≡ length_octets s at end → (0 < n) × (at + n ≤ end)
octets-within s at end e = subst (Stands at end) (sym e) (octets-stand s at end)

-- ## A number that may be too large

-- more octets make no smaller number
pub be_at-grows : (s : List ℕ) (at i k : ℕ) → be_at s at i ≤ be_at s at (i + k)
be_at-grows s at i zero = let e : be_at s at (i + 0) ≡ be_at s at i = ap (be_at s at) {x = i + 0} {y = i} (omega arith) in omega arith
be_at-grows s at i (suc k) =
    let e : be_at s at (i + suc k) ≡ be_at s at (i + k + 1) = ap (be_at s at) {x = i + suc k} {y = i + k + 1} (omega arith) in
    omega (arith, be_at-grows s at i k, be_at-more s at (i + k))

pub most-over : (s : List ℕ) (i w most : ℕ) → i ≤ w → most < be_at s 0 i → None ≡ at_most most (be_at s 0 w)
most-over s i w most h k =
    let e : i + (w - i) ≡ w = omega arith in
    rw (lt-leb (be_at s 0 w) most (omega (arith, be_at-grows s 0 i (w - i), ap (be_at s 0) e)))

-- the number of one octet more
pub be_at-turn : (s : List ℕ) (i : ℕ) → be_at s 0 (i + 1) ≡ be_at s 0 i * 256 + get_or s i 0
be_at-turn s i = be_at-more s 0 i ∙ ap (λ (j : ℕ). be_at s 0 i * 256 + get_or s j 0) {x = 0 + i} {y = i} (omega arith)

pub most-under : (most n : ℕ) → n ≤ most → Some n ≡ at_most most n
most-under most n h = rw (le-leb n most h)

pub said-short : (s : List ℕ) (at n : ℕ) → n ≡ 1 → be_at s at n ≡ length_said s at n
unfolding length_said
said-short s at n e = rw (eq-eqb n 1 e) (ap (be_at s at) e ∙ be_at-one s at)

pub said-long : (s : List ℕ) (at n : ℕ) → (n ≡ 1 → ⊥) → be_at s (at + 1) (n - 1) ≡ length_said s at n
unfolding length_said
said-long s at n h = rw (ne_eqb n 1 h)

-- the octets after the first
pub said-rest : (s : List ℕ) (m : ℕ) → (length s ≡ 1 → ⊥) → m ≡ length s - 1 → be_at (take m (drop 1 s)) 0 (length (take m (drop 1 s))) ≡ length_said s 0 (length s)
said-rest s m h e =
    let l : length (take m (drop 1 s)) ≡ m = length-take m (drop 1 s) ∙ omega (arith, length-drop 1 s) in
    ap (be_at (take m (drop 1 s)) 0) l
    ∙ be_at-same (take m (drop 1 s)) s 0 1 m (λ i h. part-at s 1 m (0 + i) (omega arith) ∙ ap (λ (j : ℕ). get_or s j 0) {x = 1 + (0 + i)} {y = 1 + i} (omega arith))
    ∙ ap (be_at s 1) e
    ∙ said-long s 0 (length s) h

-- the length that octets say does not depend on what stands around them
pub said-part : (s : List ℕ) (at n : ℕ) → length_said (part s at n) 0 n ≡ length_said s at n
unfolding length_said
said-part s at n = go (eqb n 1) refl
  where
    go : (t : Bool) → eqb n 1 ≡ t → cond t (get_or (part s at n) 0 0) (be_at (part s at n) (0 + 1) (n - 1)) ≡ cond t (get_or s at 0) (be_at s (at + 1) (n - 1))
    go true e = part-first s at n (omega (arith, eqb-true n 1 e))
    go false e =
        be_at-same (part s at n) s (0 + 1) (at + 1) (n - 1)
        (λ i h. part-at s at n (0 + 1 + i) (omega arith) ∙ ap (λ (j : ℕ). get_or s j 0) {x = at + (0 + 1 + i)} {y = at + 1 + i} (omega arith))

pub said-lent : (s : List ℕ) (at n : ℕ) {xs : List ℕ} → xs ≡ part s at n → at + n ≤ length s → length_said xs 0 (length xs) ≡ length_said s at n
said-lent s at n {xs} e h =
    let l : length xs ≡ n = ap length e ∙ part_length s at n h in
    rw (l, e) (said-part s at n)

-- ## The field

-- a length fits in what is left of the enclosure, or passes its end
module _ (tag start end x : ℕ) (h : start ≤ end) where
  whole-cut : None ≡ at_most (end - start) x → None ≡ whole_if tag start x end
  whole-cut = go (leb x (end - start)) refl
    where
      go : (t : Bool) → leb x (end - start) ≡ t → None ≡ cond t (Some x) None → None ≡ whole_if tag start x end
      go true w z = absurd cc
      go false w z = rw (lt-leb (start + x) end (omega (arith, leb-false x (end - start) w)))

  whole-fits : {len : ℕ} → Some len ≡ at_most (end - start) x → Some (field tag start len) ≡ whole_if tag start x end
  whole-fits {len} = go (leb x (end - start)) refl
    where
      go : (t : Bool) → leb x (end - start) ≡ t → Some len ≡ cond t (Some x) None → Some (field tag start len) ≡ whole_if tag start x end
      go true w z =
          let same : len ≡ x = cc in
          rw (le-leb (start + x) end (omega (arith, leb-true x (end - start) w)), same)
      go false w z = absurd cc

module _ (s : List ℕ) (at end : ℕ) where
  pub field-none : None ≡ length_octets s (at + 1) end → None ≡ field_at s at end
  unfolding field_at
  field-none e = rw (← e)

  module _ {n : ℕ} (e : Some n ≡ length_octets s (at + 1) end) where
    pub field_cut : None ≡ at_most (end - (at + 1 + n)) (length_said s (at + 1) n) → None ≡ field_at s at end
    unfolding field_at
    field_cut q = rw (← e) (whole-cut (get_or s at 0) (at + 1 + n) end (length_said s (at + 1) n) (octets-within s (at + 1) end e).1 q)

    pub field-whole : {len : ℕ} → Some len ≡ at_most (end - (at + 1 + n)) (length_said s (at + 1) n) → Some (field (get_or s at 0) (at + 1 + n) len) ≡ field_at s at end
    unfolding field_at
    field-whole q = rw (← e) (whole-fits (get_or s at 0) (at + 1 + n) end (length_said s (at + 1) n) (octets-within s (at + 1) end e).1 q)

-- what a field that was read tells
abbrev pub FieldTells : List ℕ → (at end : ℕ) → Option Field → Type 0
FieldTells s at end None = Unit
FieldTells s at end (Some f) = (f.tag ≡ get_or s at 0) × (at < f.start) × (f.start + f.len ≤ end)

pub field-tells : (s : List ℕ) (at end : ℕ) → FieldTells s at end (field_at s at end)
unfolding field_at
field-tells s at end = go (length_octets s (at + 1) end)
  where
    size : (n len : ℕ) (b : Bool) → leb (at + 1 + n + len) end ≡ b → FieldTells s at end (cond b (Some (field (get_or s at 0) (at + 1 + n) len)) None)
    size n len true e = (refl, omega arith, leb-true (at + 1 + n + len) end e)
    size n len false e = tt

    go : (k : Option ℕ) → FieldTells s at end (field_with s at end k)
    go None = tt
    go (Some n) = size n (length_said s (at + 1) n) (leb (at + 1 + n + length_said s (at + 1) n) end) refl

pub field_told : (s : List ℕ) (at end : ℕ) {k : Option Field} {f : Field} → k ≡ field_at s at end → k ≡ Some f → (f.tag ≡ get_or s at 0) × (at < f.start) × (f.start + f.len ≤ end)
field_told s at end e h = subst (FieldTells s at end) (sym e ∙ h) (field-tells s at end)

pub whole-told : (s : List ℕ) (at end : ℕ) {f : Field} → Ok f ≡ whole_field s at end → (f.tag ≡ get_or s at 0) × (at < f.start) × (f.start + f.len ≤ end)
whole-told s at end {f} = go (field_at s at end) (field-tells s at end)
  where
    go : (k : Option Field) → FieldTells s at end k → Ok f ≡ ok_or k DatagramBroken → (f.tag ≡ get_or s at 0) × (at < f.start) × (f.start + f.len ≤ end)
    go None w e = absurd cc
    go (Some g) w e =
        let same : f ≡ g = cc in
        rw same w

abbrev pub FoundTells : (at end : ℕ) → Result Part Reason → Type 0
FoundTells at end (Err r) = Unit
FoundTells at end (Ok p) = (at < p.start) × (p.start + p.len ≤ end)

pub part-tells : (tag : ℕ) (s : List ℕ) (at end : ℕ) → FoundTells at end (part_at tag s at end)
unfolding part_at
part-tells tag s at end = go (field_at s at end) (field-tells s at end)
  where
    go : (k : Option Field) → FieldTells s at end k
        → FoundTells at end (ok_or k DatagramBroken >>= λ f. cond (eqb f.tag tag) (Ok (record { start = f.start; len = f.len })) (Err DatagramBroken))
    go None w = tt
    go (Some f) w = test (eqb f.tag tag)
      where
        test : (b : Bool) → FoundTells at end (cond b (Ok (record { start = f.start; len = f.len })) (Err DatagramBroken))
        test true = (w.1, w.2)
        test false = tt

module _ (tag : ℕ) (s : List ℕ) (at end : ℕ) {k : Result Part Reason} {p : Part} where
  pub part-told : k ≡ part_at tag s at end → k ≡ Ok p → (at < p.start) × (p.start + p.len ≤ end)
  part-told e h = subst (FoundTells at end) (sym e ∙ h) (part-tells tag s at end)

-- ## Numbers

pub fewest-none : (xs : List ℕ) → length xs ≡ 0 → false ≡ fewest xs
unfolding fewest
fewest-none [] e = refl
fewest-none (x ∷ xs) e = absurd (omega arith)

pub fewest-one : (xs : List ℕ) → length xs ≡ 1 → true ≡ fewest xs
unfolding fewest
fewest-one [] e = absurd (omega arith)
fewest-one (x ∷ []) e = refl
fewest-one (x ∷ y ∷ ys) e = absurd (omega arith)

abbrev pub leading : ℕ → ℕ → Bool
leading x y = not (eqb x 0 && ltb y 128) && not (eqb x 255 && leb 128 y)

pub fewest-more : (xs : List ℕ) → 2 ≤ length xs → leading (get_or xs 0 0) (get_or xs 1 0) ≡ fewest xs
unfolding fewest
fewest-more [] h = absurd (omega arith)
fewest-more (x ∷ []) h = absurd (omega arith)
fewest-more (x ∷ y ∷ ys) h = refl

pub lead_low : (x y : ℕ) → x ≡ 0 → leb 128 y ≡ leading x y
lead_low x y e = rw e (go (ltb y 128) refl)
  where
    go : (t : Bool) → ltb y 128 ≡ t → leb 128 y ≡ leading 0 y
    go true q = rw (q, lt-leb 128 y (ltb-true y 128 q))
    go false q = rw (q, le-leb 128 y (ltb-false y 128 q))

pub lead_high : (x y : ℕ) → x ≡ 255 → ltb y 128 ≡ leading x y
lead_high x y e = rw e (go (ltb y 128) refl)
  where
    go : (t : Bool) → ltb y 128 ≡ t → ltb y 128 ≡ leading 255 y
    go true q = rw (q, lt-leb 128 y (ltb-true y 128 q))
    go false q = rw (q, le-leb 128 y (ltb-false y 128 q))

pub lead-other : (x y : ℕ) → (x ≡ 0 → ⊥) → (x ≡ 255 → ⊥) → true ≡ leading x y
lead-other x y h k = rw (ne_eqb x 0 h, ne_eqb x 255 k)

module _ (xs : List ℕ) where
  pub five-put : (z : ℕ) → z ≡ sign xs → length xs ≤ 5 → patch (replicate 5 z) (5 - length xs) xs ≡ five xs
  unfolding five
  five-put z e h =
      let len : ℕ = length xs in
      let split : replicate 5 z ≡ replicate (5 - len) z ++ (replicate len z ++ []) =
      sym (ap (λ (u : List ℕ). replicate (5 - len) z ++ u) (append-nil (replicate len z)) ∙ replicate-append-replicate (5 - len) len z ∙ ap (λ (n : ℕ). replicate n z) {x = 5 - len + len} {y = 5} (omega arith)) in
      ap (λ (u : List ℕ). patch u (5 - len) xs) split
      ∙ patch-mid (replicate (5 - len) z) (replicate len z) [] xs (5 - len) (length-replicate (5 - len) z) (length-replicate len z)
      ∙ append-nil (replicate (5 - len) z ++ xs)
      ∙ ap (λ (u : ℕ). replicate (5 - len) u ++ xs) e

-- what the field of a number tells: it has an octet at least
abbrev pub NumberTells : List ℕ → (at end : ℕ) → Result Part Reason → Type 0
NumberTells s at end (Err r) = Unit
NumberTells s at end (Ok p) = (at < p.start) × (p.start + p.len ≤ end) × (1 ≤ p.len)

some : (s : List ℕ) (start len : ℕ) → fewest (part s start len) ≡ true → 1 ≤ len
unfolding fewest
some s start zero e = let z : ◌≡◌ {A = ℕ} 0 1 = cc in absurd (omega arith)
some s start (suc len) e = omega arith

pub number-tells : (s : List ℕ) (at end : ℕ) → NumberTells s at end (number_at s at end)
unfolding number_at
number-tells s at end = go (part_at 0x02 s at end) (part-tells 0x02 s at end)
  where
    go : (f : Result Part Reason) → FoundTells at end f → NumberTells s at end (f >>= λ p. cond (fewest (part s p.start p.len)) (Ok p) (Err DatagramBroken))
    go (Err r) w = tt
    go (Ok p) w = test (fewest (part s p.start p.len)) refl
      where
        test : (b : Bool) → fewest (part s p.start p.len) ≡ b → NumberTells s at end (cond b (Ok p) (Err DatagramBroken))
        test true e = (w.0, w.1, some s p.start p.len e)
        test false e = tt

pub number-told : (s : List ℕ) (at end : ℕ) {k : Result Part Reason} {p : Part} → k ≡ number_at s at end → k ≡ Ok p → (at < p.start) × (p.start + p.len ≤ end) × (1 ≤ p.len)
number-told s at end e h = subst (NumberTells s at end) (sym e ∙ h) (number-tells s at end)

-- ## Names

module _ (xs : List ℕ) (f : Bool) (i : ℕ) (inv : ends_from f (drop i xs) ≡ ends_from true xs) where
  turn : i < length xs → (not (f && eqb (get_or xs i 0) 128) && ends_from (ltb (get_or xs i 0) 128) (drop (i + 1) xs)) ≡ ends_from true xs
  unfolding ends_from
  turn h = rw (add-one i) (rw (drop-cons xs i 0 h) at inv)

  pub name-bad : i < length xs → f && eqb (get_or xs i 0) 128 ≡ true → false ≡ name_whole xs
  unfolding name_whole
  name-bad h e = rw (lt-ltb 0 (length xs) (omega arith), ← turn h, e)

  pub name-on : i < length xs → f && eqb (get_or xs i 0) 128 ≡ false → ends_from (ltb (get_or xs i 0) 128) (drop (i + 1) xs) ≡ ends_from true xs
  name-on h e = rw e at (turn h)

  pub name_done : length xs ≤ i → (ltb 0 (length xs) && f) ≡ name_whole xs
  unfolding name_whole ends_from
  name_done h =
      let e : drop i xs ≡ [] = drop_of_length-le xs {i = i} h in
      let w : f ≡ ends_from true xs = rw e at inv in
      rw (← w)
