-- Laws of `specs/Parts.antt`: patches, zeros, equal parts. Assumes nothing.
use mathlib.Core.Path.{◌≡◌, refl, sym, ap, ap₂, ◌∙◌}
use mathlib.Core.List.{List, [], ◌∷◌, ◌++◌, append_assoc, append-nil}
use mathlib.Core.Bool.{Bool, true, false, ◌&&◌, false≢true, and-true, and_assoc}
use Prim.Native.Nat.{ℕ, zero, suc, ◌+◌, ◌-◌, ◌≤◌, ◌<◌}
use native.Mathlib.Nat.{add-zero}
use native.Mathlib.Numerals.{add-one}
use native.Mathlib.Omega.{arith}
use lib.ListN.{drop_of_length-le, length, length-take, take, drop, get_or, set, length-append, length-drop, take-append-drop, get_or-append, replicate-append-replicate, length-replicate}
use lib.Seq.{get_or-take, get_or-drop, take-set-le, drop-cons, append_snoc, length-take-le, take_at, drop_at, set_at, set_split, get_or-append-add, take-add, drop-drop, sets, sets-eq, set_comm, get_or_at}
use borrow.Author.Tests.{eqb-true, eq-eqb, ne_eqb, eqb-false}
use borrow.Rule.Slice.PartMut.{put_mid}
use lib.Bits.{bit_or, or_zero_l, or_add_and, and_le_r}
use lib.Dec.{eqb, eqb-suc-zero}
use Rattle.std.specs.Cmp.Lexicographic.{pointwise}
use Rattle.octets.specs.Parts.{part, patch, zeros, zero_run, same}
use Rattle.octets.proofs.BoolLaws.{both}

-- what stands from index q on after a store there
drop-set-same : (b : List ℕ) (q d : ℕ) → q < length b → drop q (set b q d) ≡ d ∷ drop (suc q) b
drop-set-same b q d h = rw set_split (drop_at (take q b) (d ∷ drop (suc q) b) q (length-take-le q b (omega arith)))

-- a store behind a patch makes it one longer
pub patch-snoc : (b : List ℕ) (p : ℕ) (xs : List ℕ) (d : ℕ) → p + length xs < length b → patch (set b (p + length xs) d) p xs ≡ patch b p (xs ++ (d ∷ []))
unfolding patch
patch-snoc b p xs d h =
    let e : suc (p + length xs) ≡ p + length (xs ++ (d ∷ [])) = omega (arith, length-append xs (d ∷ [])) in
    ap (λ (u : List ℕ). u ++ xs ++ drop (p + length xs) (set b (p + length xs) d)) (take-set-le p b (p + length xs) d (omega arith))
    ∙ ap (λ (r : List ℕ). take p b ++ xs ++ r) (drop-set-same b (p + length xs) d h)
    ∙ sym (append_snoc (take p b ++ xs) d (drop (suc (p + length xs)) b))
    ∙ ap (λ (r : List ℕ). r ++ drop (suc (p + length xs)) b) (append_assoc (take p b) xs (d ∷ []))
    ∙ ap (λ (k : ℕ). take p b ++ (xs ++ (d ∷ [])) ++ drop k b) e

pub patch-none : (b : List ℕ) (p : ℕ) → b ≡ patch b p []
unfolding patch
patch-none b p = rw (add-zero, append-nil) (sym (take-append-drop p b))

-- a store right behind what was patched makes the patch one longer: the turn of a loop that writes from the front
pub patch-store : (b : List ℕ) (p : ℕ) (xs : List ℕ) (d : ℕ) → p + length xs < length b → set (patch b p xs) (p + length xs) d ≡ patch b p (xs ++ (d ∷ []))
unfolding patch
patch-store b p xs d h =
    let e : suc (p + length xs) ≡ p + length (xs ++ (d ∷ [])) = omega (arith, length-append xs (d ∷ [])) in
    let l : length (take p b ++ xs) ≡ p + length xs = simp length-append (omega (arith, length-take-le p b (omega arith))) in
    ap (λ (r : List ℕ). set (take p b ++ xs ++ r) (p + length xs) d) (drop-cons b (p + length xs) 0 h)
    ∙ set_at (take p b ++ xs) (get_or b (p + length xs) 0) (drop (suc (p + length xs)) b) d (p + length xs) l
    ∙ sym (append_snoc (take p b ++ xs) d (drop (suc (p + length xs)) b))
    ∙ ap (λ (r : List ℕ). r ++ drop (suc (p + length xs)) b) (append_assoc (take p b) xs (d ∷ []))
    ∙ ap (λ (k : ℕ). take p b ++ (xs ++ (d ∷ [])) ++ drop k b) e

-- what a write to a part leaves
pub mid-patch : (b : List ℕ) (p k : ℕ) (ys xs : List ℕ) → ys ≡ xs → k ≡ length xs → put_mid p k b ys ≡ patch b p xs
unfolding patch
mid-patch b p k ys xs e f = rw (e, f, drop-drop (length xs) p b) (sym (append_assoc (take p b) xs (drop (p + length xs) b)))

pub length-patch : (b : List ℕ) (p : ℕ) (xs : List ℕ) → p + length xs ≤ length b → length (patch b p xs) ≡ length b
unfolding patch
length-patch b p xs h = simp (length-append, length-drop) (omega (arith, length-take-le p b (omega arith)))

pub length-zeros : (n : ℕ) → length (zeros n) ≡ n
unfolding zeros
length-zeros n = length-replicate n 0

pub zeros-at : (n i : ℕ) → get_or (zeros n) i 0 ≡ 0
unfolding zeros
zeros-at zero i = refl
zeros-at (suc n) zero = refl
zeros-at (suc n) (suc i) = zeros-at n i

pub zeros-append : (n m : ℕ) → zeros n ++ zeros m ≡ zeros (n + m)
unfolding zeros
zeros-append n m = replicate-append-replicate n m 0

run-snoc : (b : List ℕ) (p n : ℕ) → zero_run b p (suc n) ≡ (zero_run b p n && eqb (get_or b (p + n) 0) 0)
unfolding zero_run
run-snoc b p zero = rw (add-zero, and-true)
run-snoc b p (suc n) =
    let e : p + 1 + n ≡ p + suc n = omega arith in
    let r : zero_run b (p + 1) (suc n) ≡ (zero_run b (p + 1) n && eqb (get_or b (p + suc n) 0) 0) = rw e at (run-snoc b (p + 1) n) in
    ap (λ (t : Bool). eqb (get_or b p 0) 0 && t) r ∙ sym (and_assoc (eqb (get_or b p 0) 0) (zero_run b (p + 1) n) (eqb (get_or b (p + suc n) 0) 0))

-- one octet more at the end of a run
pub zero_run-snoc : (b : List ℕ) (p n : ℕ) → zero_run b p (n + 1) ≡ (zero_run b p n && eqb (get_or b (p + n) 0) 0)
zero_run-snoc b p n = rw add-one (run-snoc b p n)

-- the bits of two numbers joined are 0 where both numbers are
pub or-zero : (x y : ℕ) → eqb (bit_or x y) 0 ≡ (eqb x 0 && eqb y 0)
or-zero zero y = rw (or_zero_l y)
or-zero (suc x) y = rw (eqb-suc-zero x) (ne_eqb (bit_or (suc x) y) 0 (λ e. omega (arith, e, or_add_and (suc x) y, and_le_r (suc x) y)))

-- zeros that were found, and that are there
pub zero_run-is : (b : List ℕ) (p n : ℕ) → p + n ≤ length b → zero_run b p n ≡ true → take n (drop p b) ≡ zeros n
unfolding zero_run zeros
zero_run-is b p zero h e = refl
zero_run-is b p (suc n) h e =
    let t : (eqb (get_or b p 0) 0 ≡ true) × (zero_run b (p + 1) n ≡ true) = both (eqb (get_or b p 0) 0) (zero_run b (p + 1) n) e in
    rw (drop-cons b p 0 (omega arith), eqb-true (get_or b p 0) 0 t.0)
    (ap (λ (u : List ℕ). 0 ∷ u) (rw (← add-one p) (zero_run-is b (p + 1) n (omega arith) t.1)))

pub zero_run-zeros : (x z : List ℕ) (p n : ℕ) → length x ≡ p → zero_run (x ++ (zeros n ++ z)) p n ≡ true
unfolding zero_run zeros
zero_run-zeros x z p zero e = refl
zero_run-zeros x z p (suc n) e =
    let more : zero_run (x ++ (0 ∷ (zeros n ++ z))) (p + 1) n ≡ true =
    ap (λ (u : List ℕ). zero_run u (p + 1) n) (sym (append_snoc x 0 (zeros n ++ z)))
    ∙ zero_run-zeros (x ++ (0 ∷ [])) z (p + 1) n (length-append x (0 ∷ []) ∙ omega arith) in
    rw (get_or_at x 0 (zeros n ++ z) 0 p e) more

-- a patch over the middle of three parts
pub patch-mid : (x y z m : List ℕ) (p : ℕ) → length x ≡ p → length y ≡ length m → patch (x ++ (y ++ z)) p m ≡ x ++ m ++ z
unfolding patch
patch-mid x y z m p e h =
    let n : length (x ++ y) ≡ p + length m = length-append x y ∙ omega arith in
    ap (λ (u : List ℕ). u ++ m ++ drop (p + length m) (x ++ (y ++ z))) (take_at x (y ++ z) p e)
    ∙ ap (λ (u : List ℕ). x ++ m ++ u) (ap (drop (p + length m)) (sym (append_assoc x y z)) ∙ drop_at (x ++ y) z (p + length m) n)

pub patch-sets : (b : List ℕ) (p : ℕ) (xs : List ℕ) → p + length xs ≤ length b → patch b p xs ≡ sets b p xs
unfolding patch
patch-sets b p xs h = sym (sets-eq xs b p h)

pub get_d-patch-in : (b : List ℕ) (p : ℕ) (xs : List ℕ) (i : ℕ) → p + length xs ≤ length b → i < length xs → get_or (patch b p xs) (p + i) 0 ≡ get_or xs i 0
unfolding patch
get_d-patch-in b p xs i h k =
    let l : length (take p b) ≡ p = length-take-le p b (omega arith) in
    let e : p + i ≡ length (take p b) + i = omega arith in
    ap (λ (u : List ℕ). get_or u (p + i) 0) (append_assoc (take p b) xs (drop (p + length xs) b))
    ∙ ap (λ (j : ℕ). get_or (take p b ++ (xs ++ drop (p + length xs) b)) j 0) e
    ∙ get_or-append-add (take p b) (xs ++ drop (p + length xs) b) i 0
    ∙ get_or-append xs (drop (p + length xs) b) 0 i k

set-sets : (b : List ℕ) (p : ℕ) (xs : List ℕ) (j v : ℕ) → p + length xs ≤ j → set (sets b p xs) j v ≡ sets (set b j v) p xs
set-sets b p [] j v h = refl
set-sets b p (x ∷ xs) j v h =
    set-sets (set b p x) (suc p) xs j v (omega arith) ∙ ap (λ (u : List ℕ). sets u (suc p) xs) (set_comm b p j x v (omega arith))

sets-comm : (b : List ℕ) (p : ℕ) (xs : List ℕ) (q : ℕ) (ys : List ℕ) → p + length xs ≤ q → sets (sets b p xs) q ys ≡ sets (sets b q ys) p xs
sets-comm b p xs q [] h = refl
sets-comm b p xs q (y ∷ ys) h =
    ap (λ (u : List ℕ). sets u (suc q) ys) (set-sets b p xs q y h) ∙ sets-comm (set b q y) p xs (suc q) ys (omega arith)

-- patches at places that do not meet may change order
pub patch-comm : (b : List ℕ) (p : ℕ) (xs : List ℕ) (q : ℕ) (ys : List ℕ) → p + length xs ≤ q → q + length ys ≤ length b
    → patch (patch b p xs) q ys ≡ patch (patch b q ys) p xs
patch-comm b p xs q ys h k =
    let l : length (patch b p xs) ≡ length b = length-patch b p xs (omega arith) in
    let m : length (patch b q ys) ≡ length b = length-patch b q ys k in
    patch-sets (patch b p xs) q ys (omega arith) ∙ ap (λ (u : List ℕ). sets u q ys) (patch-sets b p xs (omega arith))
    ∙ sets-comm b p xs q ys h
    ∙ sym (patch-sets (patch b q ys) p xs (omega arith) ∙ ap (λ (u : List ℕ). sets u p xs) (patch-sets b q ys k))

-- a patch right behind another is one patch
pub patch-patch : (b : List ℕ) (p : ℕ) (xs ys : List ℕ) (q : ℕ) → p + length xs ≡ q → q + length ys ≤ length b → patch (patch b p xs) q ys ≡ patch b p (xs ++ ys)
unfolding patch
patch-patch b p xs ys q e h =
    let n : q + length ys ≡ p + length (xs ++ ys) = omega (arith, length-append xs ys) in
    let l : length (take p b ++ xs) ≡ q = length-append (take p b) xs ∙ omega (arith, length-take-le p b (omega arith)) in
    let m : length (take (length ys) (drop q b)) ≡ length ys = length-take-le (length ys) (drop q b) (rw length-drop (omega arith)) in
    ap (λ (k : ℕ). patch (take p b ++ xs ++ drop k b) q ys) e
    ∙ ap (λ (u : List ℕ). patch (take p b ++ xs ++ u) q ys)
    (sym (take-append-drop (length ys) (drop q b)) ∙ ap (λ (u : List ℕ). take (length ys) (drop q b) ++ u) (drop-drop (length ys) q b))
    ∙ patch-mid (take p b ++ xs) (take (length ys) (drop q b)) (drop (q + length ys) b) ys q l m
    ∙ ap (λ (u : List ℕ). u ++ drop (q + length ys) b) (append_assoc (take p b) xs ys)
    ∙ ap (λ (k : ℕ). take p b ++ (xs ++ ys) ++ drop k b) n

-- three patches, one behind the other
pub patch-three : (b : List ℕ) (p : ℕ) (x y z : List ℕ) (q r : ℕ) → p + length x ≡ q → q + length y ≡ r → r + length z ≤ length b
    → patch (patch (patch b p x) q y) r z ≡ patch b p (x ++ (y ++ z))
patch-three b p x y z q r e f h =
    ap (λ (u : List ℕ). patch u r z) (patch-patch b p x y q e (omega arith))
    ∙ patch-patch b p (x ++ y) z r (omega (arith, length-append x y)) h
    ∙ ap (patch b p) (append_assoc x y z)

-- two parts that meet
pub take-take-drop : (b : List ℕ) (p m n : ℕ) → take m (drop p b) ++ take n (drop (p + m) b) ≡ take (m + n) (drop p b)
take-take-drop b p m n = rw (← drop-drop m p b) (sym (take-add m n (drop p b)))

-- the part between two others
pub part_in : (s x c z : List ℕ) (p : ℕ) → s ≡ x ++ (c ++ z) → length x ≡ p → part s p (length c) ≡ c
part_in s x c z p is e = rw (is, drop_at x (c ++ z) p e) (take_at c z (length c) refl)

-- how long a part is, and the octets in it
module _ (s : List ℕ) (p n : ℕ) where
  pub part_length : p + n ≤ length s → length (part s p n) ≡ n
  part_length h = simp (length-take, length-drop) (omega arith)

  pub part-at : (i : ℕ) → i < n → get_or (part s p n) i 0 ≡ get_or s (p + i) 0
  part-at i h = rw (get_or-take, get_or-drop)

  pub part-first : 0 < n → get_or (part s p n) 0 0 ≡ get_or s p 0
  part-first h = part-at 0 h ∙ ap (λ (k : ℕ). get_or s k 0) (omega arith)

-- the same of a part that is lent by its two ends
module _ (s : List ℕ) (p n : ℕ) where
  pub lent-is : part s p (p + n - p) ≡ part s p n
  lent-is = let e : p + n - p ≡ n = omega arith in rw e

  pub lent_length : p + n ≤ length s → length (part s p (p + n - p)) ≡ n
  lent_length h = rw lent-is (part_length s p n h)

  pub lent-at : (i : ℕ) → i < n → get_or (part s p (p + n - p)) i 0 ≡ get_or s (p + i) 0
  lent-at i h = rw lent-is (part-at s p n i h)

-- a part of one octet
pub part-one : (s : List ℕ) (p : ℕ) → p < length s → part s p 1 ≡ get_or s p 0 ∷ []
part-one s p h = rw (drop-cons s p 0 h)

-- equal lists are found equal, and lists that are found equal are
pub same_refl : (xs : List ℕ) → same xs xs ≡ true
unfolding same
same_refl [] = refl
same_refl (x ∷ xs) = rw (eq-eqb x x refl) (same_refl xs)

-- a test for equal numbers is the same either way round
pub eqb_swap : (a b : ℕ) → eqb a b ≡ eqb b a
eqb_swap a b = go (eqb a b) refl
  where
    go : (t : Bool) → eqb a b ≡ t → t ≡ eqb b a
    go true e = sym (eq-eqb b a (sym (eqb-true a b e)))
    go false e = sym (ne_eqb b a (λ f. eqb-false a b e (sym f)))

-- so is a test for the same octets
pub same-swap : (us vs : List ℕ) → same us vs ≡ same vs us
unfolding same
same-swap [] [] = refl
same-swap [] (v ∷ vs) = refl
same-swap (u ∷ us) [] = refl
same-swap (u ∷ us) (v ∷ vs) = rw (eqb_swap u v, same-swap us vs)

pub same-eq : (xs ys : List ℕ) → same xs ys ≡ true → xs ≡ ys
unfolding same
same-eq [] [] e = refl
same-eq [] (y ∷ ys) e = absurd (false≢true e)
same-eq (x ∷ xs) [] e = absurd (false≢true e)
same-eq (x ∷ xs) (y ∷ ys) e =
    let t : (eqb x y ≡ true) × (same xs ys ≡ true) = both (eqb x y) (same xs ys) e in
    ap₂ ◌∷◌ (eqb-true x y t.0) (same-eq xs ys t.1)

-- lists of two lengths are not equal
pub same-lengths : (xs ys : List ℕ) → (length xs ≡ length ys → ⊥) → same xs ys ≡ false
same-lengths xs ys h = go (same xs ys) refl
  where
    go : (t : Bool) → same xs ys ≡ t → same xs ys ≡ false
    go true e = absurd (h (ap length (same-eq xs ys e)))
    go false e = e

-- the slices' own test is this one
pub pointwise-same : (xs ys : List ℕ) → pointwise eqb xs ys ≡ same xs ys
unfolding same
pointwise-same [] [] = refl
pointwise-same [] (y ∷ ys) = refl
pointwise-same (x ∷ xs) [] = refl
pointwise-same (x ∷ xs) (y ∷ ys) = rw (pointwise-same xs ys)

-- a turn of the comparison
pub same_turn : (xs ys : List ℕ) (i : ℕ) → i < length xs → i < length ys
    → same (drop i xs) (drop i ys) ≡ (eqb (get_or xs i 0) (get_or ys i 0) && same (drop (i + 1) xs) (drop (i + 1) ys))
unfolding same
same_turn xs ys i h k = rw (add-one, drop-cons xs i 0 h, drop-cons ys i 0 k)

-- the last octets are zeros where they are found so
pub same-last : (b : List ℕ) (p n : ℕ) → p + n ≡ length b → same (zeros n) (drop p b) ≡ zero_run b p n
unfolding same zeros zero_run
same-last b p zero e = rw (drop_of_length-le b {i = p} (omega arith))
same-last b p (suc n) e =
    rw (drop-cons b p 0 (omega arith), eqb_swap 0 (get_or b p 0))
    (ap (λ (t : Bool). eqb (get_or b p 0) 0 && t) (rw (← add-one p) (same-last b (p + 1) n (omega arith))))
