-- Laws of writing BER from the back. Assumes nothing.
use Prim.Native.Nat.{ℕ, zero, suc, ◌+◌, ◌*◌, ◌-◌, ◌/◌, ◌%◌, ◌^◌, ◌≤◌, ◌<◌}
use mathlib.Core.Path.{◌≡◌, refl, sym, ap, subst, ◌∙◌}
use mathlib.Core.Bool.{Bool, true, false, cond, ◌&&◌, ◌||◌, false≢true}
use mathlib.Core.List.{List, [], ◌∷◌, ◌++◌, append-nil}
use native.Mathlib.Omega.{arith}
use native.Mathlib.Nat.{pow-suc}
use native.Mathlib.Numerals.{add-one}
use borrow.Author.Tests.{lt-ltb, le-ltb, eqb-true, ne_eqb, ltb-true}
use lib.Dec.{ltb, eqb}
use lib.ListN.{length, set, get_or, take, drop, replicate, length-append, length-set, drop_of_length-le}
use lib.Seq.{drop-cons, get_or-drop, take_all}
use Rattle.octets.specs.Numbers.{be_at, be_octets}
use Rattle.octets.specs.Parts.{part, patch}
use Rattle.octets.proofs.PartLaws.{patch-snoc, patch-none, patch-patch, patch-comm, patch-mid, length-patch, part_length, part-at}
use Rattle.octets.proofs.NumberLaws.{length-be_octets, be_at-same}
use Rattle.names.specs.SubIds.{subids}
use Rattle.names.proofs.SubIdLaws.{subids-drop, subids-step, subids-count}
use Rattle.message.specs.declared.request.Binding.{Binding}
use Rattle.message.specs.Form.{content_length}
use Rattle.message.specs.Answer.{bound_at}
use Rattle.ber.specs.Ber.{fewest}
use Rattle.sending.specs.Writing.{length_form, header_form, going_on, base128, shortened, numbers_octets, first_one, name_ber, ber_octets, name_written, content_ber, ber_tag, binding_ber, Put}

-- ## Headers

module _ (tag len : ℕ) where
  pub header-one : len < 128 → tag ∷ len ∷ [] ≡ header_form tag len
  unfolding length_form
  header-one h = rw (lt-ltb len 128 h)

  pub header-two : 128 ≤ len → len < 256 → tag ∷ 0x81 ∷ len ∷ [] ≡ header_form tag len
  unfolding length_form
  header-two g h = rw (le-ltb len 128 g, lt-ltb len 256 h)

  pub header-three : 256 ≤ len → len < 65536 → tag ∷ 0x82 ∷ len / 256 ∷ len % 256 ∷ [] ≡ header_form tag len
  unfolding length_form be_octets
  header-three g h =
      let a : len / 256 % 256 ≡ len / 256 = omega arith in
      rw (le-ltb len 128 (omega arith), le-ltb len 256 g, a)

-- a header that was put
pub header-put : (out : List ℕ) (p k tag len : ℕ) {xs b : List ℕ} → xs ≡ header_form tag len → length xs ≡ k → k ≤ p → b ≡ patch out (p - k) xs → Put out b (p - k) p (header_form tag len)
header-put out p k tag len e n h q = record { starts = omega (arith, ap length e); filled = q ∙ ap (patch out (p - k)) e }

-- ## Numbers to the base 128

pub div-small : (m c : ℕ) → m < c * 128 → m / 128 < c
div-small m c h = omega arith

pub going-none : (k : ℕ) → going_on k 0 ≡ []
unfolding going_on
going-none zero = refl
going-none (suc k) = refl

going-turn : (k n : ℕ) → 0 < n → going_on (suc k) n ≡ going_on k (n / 128) ++ ((128 + n % 128) ∷ [])
unfolding going_on
going-turn k n h = rw (ne_eqb n 0 (λ e. omega arith))

length-going : (k n : ℕ) → length (going_on k n) ≤ k
unfolding going_on
length-going zero n = omega arith
length-going (suc k) n = go (eqb n 0) (length-going k (n / 128))
  where
    go : (t : Bool) → length (going_on k (n / 128)) ≤ k → length (cond t [] (going_on k (n / 128) ++ ((128 + n % 128) ∷ []))) ≤ suc k
    go true h = omega arith
    go false h = omega (arith, length-append (going_on k (n / 128)) ((128 + n % 128) ∷ []))

-- the octets of m before place q are still to be put in b, at most k of them; all of n before p were to be put in a
pub record Before (a b : List ℕ) (p n q m k : ℕ) : Type 0 where
  pub long : length b ≡ length a
  pub room : k ≤ q
  pub within : q ≤ p
  pub small : m < 128 ^ k
  pub start : q - length (going_on k m) + length (going_on 4 n) ≡ p
  pub left : patch b (q - length (going_on k m)) (going_on k m) ≡ patch a (q - length (going_on k m)) (going_on 4 n)

pub before-first : (a : List ℕ) (p n : ℕ) → 4 ≤ p → n < 2 ^ 28 → Before a a p n p n 4
before-first a p n h s = record { long = refl; room = h; within = omega arith; small = omega arith; start = omega (arith, length-going 4 n); left = refl }

before-turn : {a b : List ℕ} {p n q m k : ℕ} → Before a b p n q m (suc k) → 0 < m → p ≤ length a → Before a (set b (q - 1) (128 + m % 128)) p n (q - 1) (m / 128) k
before-turn {a} {b} {p} {n} {q} {m} {k} w h l =
    let x : List ℕ = going_on k (m / 128) in
    let d : ℕ = 128 + m % 128 in
    let g : length x ≤ k = length-going k (m / 128) in
    let t : going_on (suc k) m ≡ x ++ (d ∷ []) = going-turn k m h in
    let n1 : length (going_on (suc k) m) ≡ length x + 1 = ap length t ∙ length-append x (d ∷ []) in
    let i : q - length (going_on (suc k) m) ≡ q - 1 - length x = omega arith in
    let e : q - 1 - length x + length x ≡ q - 1 = omega (arith, w.room) in
    record {
      long = length-set b (q - 1) d ∙ w.long;
      room = omega (arith, w.room);
      within = omega (arith, w.within);
      small = div-small m (128 ^ k) (rw pow-suc at w.small);
      start = omega (arith, w.start);
      left =
          ap (λ (j : ℕ). patch (set b j d) (q - 1 - length x) x) (sym e)
          ∙ patch-snoc b (q - 1 - length x) x d (omega (arith, w.within, w.long, w.room))
          ∙ ap (λ (u : List ℕ). patch b (q - 1 - length x) u) (sym t)
          ∙ ap (λ (j : ℕ). patch b j (going_on (suc k) m)) (sym i)
          ∙ w.left
          ∙ ap (λ (j : ℕ). patch a j (going_on 4 n)) i;
    }

-- how many octets may still come is not in the code
abbrev pub Going : (a b : List ℕ) (p n q m : ℕ) → Type 0
Going a b p n q m = (k : ℕ) × Before a b p n q m k

pub going-room : {a b : List ℕ} {p n q m : ℕ} → Going a b p n q m → 0 < m → 1 ≤ q
going-room (zero, w) h = absurd (omega (arith, w.small))
going-room (suc k, w) h = omega (arith, w.room)

pub going-again : {a b : List ℕ} {p n q m : ℕ} → Going a b p n q m → 0 < m → p ≤ length a → Going a (set b (q - 1) (128 + m % 128)) p n (q - 1) (m / 128)
going-again (zero, w) h l = absurd (omega (arith, w.small))
going-again (suc k, w) h l = (k, before-turn w h l)

pub going_done : {a b : List ℕ} {p n q m : ℕ} → Going a b p n q m → m ≡ 0 → Put a b q p (going_on 4 n)
going_done {a} {b} {p} {n} {q} {m} (k, w) e =
    let z : going_on k m ≡ [] = ap (going_on k) e ∙ going-none k in
    let s : q - length (going_on k m) ≡ q = omega (arith, ap length z) in
    record {
      starts = omega (arith, w.start, s);
      filled = patch-none b q ∙ ap (patch b q) (sym z) ∙ ap (λ (j : ℕ). patch b j (going_on k m)) (sym s) ∙ w.left ∙ ap (λ (j : ℕ). patch a j (going_on 4 n)) s;
    }

pub base128-put : (a : List ℕ) (p n r : ℕ) {b : List ℕ} → 5 ≤ p → p ≤ length a → Put (set a (p - 1) (n % 128)) b r (p - 1) (going_on 4 (n / 128)) → Put a b r p (base128 n)
unfolding base128
base128-put a p n r h l w =
    record {
      starts = omega (arith, w.starts, length-append (going_on 4 (n / 128)) (n % 128 ∷ []));
      filled = w.filled ∙ ap (λ (j : ℕ). patch (set a j (n % 128)) r (going_on 4 (n / 128))) (sym w.starts) ∙ patch-snoc a r (going_on 4 (n / 128)) (n % 128) (omega (arith, w.starts));
    }

-- ## Numbers in the fewest octets

pub short-here : (xs : List ℕ) → fewest xs ≡ true → xs ≡ shortened xs
unfolding shortened
short-here [] e = refl
short-here (x ∷ []) e = refl
short-here (x ∷ y ∷ ys) e = rw e

pub short-next : (x : ℕ) (xs : List ℕ) → fewest (x ∷ xs) ≡ false → shortened xs ≡ shortened (x ∷ xs)
unfolding shortened fewest
short-next x [] e = absurd (false≢true (sym e))
short-next x (y ∷ ys) e = rw e

pub short-none : (xs : List ℕ) → length xs ≡ 0 → xs ≡ shortened xs
unfolding shortened
short-none [] e = refl
short-none (x ∷ xs) e = absurd (omega arith)

-- what is put before something makes with it one part
pub before-put : (a : List ℕ) (r q : ℕ) (xs ws : List ℕ) → r + length xs ≡ q → q + length ws ≤ length a → patch (patch a q ws) r xs ≡ patch a r (xs ++ ws)
before-put a r q xs ws e h = sym (patch-comm a r xs q ws (omega arith) h) ∙ patch-patch a r xs ws q e h

-- ## Names, from the last sub-id to the third

numbers-drop : (ids : List ℕ) (i : ℕ) → i < length ids → numbers_octets (drop i ids) ≡ base128 (get_or ids i 0) ++ numbers_octets (drop (i + 1) ids)
unfolding numbers_octets
numbers-drop ids i h = rw (add-one i, drop-cons ids i 0 h)

numbers-cons : (n : ℕ) (ns : List ℕ) → numbers_octets (n ∷ ns) ≡ base128 n ++ numbers_octets ns
unfolding numbers_octets
numbers-cons n ns = refl

pub length-base128 : (n : ℕ) → length (base128 n) ≤ 5
unfolding base128
length-base128 n = omega (arith, length-append (going_on 4 (n / 128)) (n % 128 ∷ []), length-going 4 (n / 128))

-- the sub-ids from i on are put before p in b, which was a; q is where they start
pub record Named (ids a b : List ℕ) (p q i : ℕ) : Type 0 where
  pub long : length b ≡ length a
  pub within : i ≤ length ids
  pub two : 2 ≤ i
  pub room : 5 * i ≤ q
  pub placed : q + length (numbers_octets (drop i ids)) ≡ p
  pub done : b ≡ patch a q (numbers_octets (drop i ids))

pub named_none : (ids a : List ℕ) (p n : ℕ) → n ≡ length ids → 2 ≤ n → 5 * n ≤ p → Named ids a a p p n
unfolding numbers_octets
named_none ids a p n e h r =
    let z : drop n ids ≡ [] = drop_of_length-le ids {i = n} (omega arith) in
    record { long = refl; within = omega arith; two = h; room = r; placed = rw z (omega arith); done = rw z (patch-none a p) }

pub named_more : (ids a : List ℕ) (p q i r : ℕ) {b b' : List ℕ} (v : ℕ) → Named ids a b p q (suc i) → 2 ≤ i → p ≤ length a → v ≡ get_or ids i 0 → Put b b' r q (base128 v) → length b' ≡ length b → Named ids a b' p r i
named_more ids a p q i r {b} {b'} v w two l e f k =
    let d : numbers_octets (drop i ids) ≡ base128 v ++ numbers_octets (drop (i + 1) ids) = numbers-drop ids i (omega (arith, w.within)) ∙ rw (← e) in
    let s : length (numbers_octets (drop i ids)) ≡ length (base128 v) + length (numbers_octets (drop (i + 1) ids)) = ap length d ∙ length-append (base128 v) (numbers_octets (drop (i + 1) ids)) in
    let o : drop (suc i) ids ≡ drop (i + 1) ids = rw (add-one i) in
    let t : length (numbers_octets (drop (suc i) ids)) ≡ length (numbers_octets (drop (i + 1) ids)) = ap (λ (u : List ℕ). length (numbers_octets u)) o in
    let five : length (base128 v) ≤ 5 = length-base128 v in
    record {
      long = k ∙ w.long;
      within = omega (arith, w.within);
      two = two;
      room = omega (arith, w.room, f.starts);
      placed = omega (arith, w.placed, f.starts);
      done =
          f.filled
          ∙ ap (λ (u : List ℕ). patch u r (base128 v)) (w.done ∙ ap (λ (u : List ℕ). patch a q (numbers_octets u)) o)
          ∙ before-put a r q (base128 v) (numbers_octets (drop (i + 1) ids)) f.starts (omega (arith, w.placed))
          ∙ ap (patch a r) (sym d);
    }

pub named-done : (ids a : List ℕ) (p q r : ℕ) {b b' : List ℕ} (v : ℕ) → Named ids a b p q 2 → p ≤ length a → v ≡ 40 * get_or ids 0 0 + get_or ids 1 0 → Put b b' r q (base128 v)
    → Put a b' r p (numbers_octets (first_one ids))
named-done ids a p q r {b} {b'} v w l e f =
    let d : numbers_octets (first_one ids) ≡ base128 v ++ numbers_octets (drop 2 ids) = first ids w.within e in
    let s : length (numbers_octets (first_one ids)) ≡ length (base128 v) + length (numbers_octets (drop 2 ids)) = ap length d ∙ length-append (base128 v) (numbers_octets (drop 2 ids)) in
    record {
      starts = omega (arith, w.placed, f.starts);
      filled = f.filled ∙ ap (λ (u : List ℕ). patch u r (base128 v)) w.done ∙ before-put a r q (base128 v) (numbers_octets (drop 2 ids)) f.starts (omega (arith, w.placed)) ∙ ap (patch a r) (sym d);
    }
  where
    first : (ids : List ℕ) → 2 ≤ length ids → v ≡ 40 * get_or ids 0 0 + get_or ids 1 0 → numbers_octets (first_one ids) ≡ base128 v ++ numbers_octets (drop 2 ids)
    first [] h e = absurd (omega arith)
    first (x ∷ []) h e = absurd (omega arith)
    first (x ∷ y ∷ ys) h e = numbers-cons (40 * x + y) ys ∙ ap (λ (u : ℕ). base128 u ++ numbers_octets ys) (sym e)

-- a sub-id in the octets of a name
pub sub_at : (xs : List ℕ) (i : ℕ) → 4 * i + 4 ≤ length xs → be_at xs (4 * i) 4 ≡ get_or (subids xs) i 0
sub_at xs i h =
    let d : drop i (subids xs) ≡ be_at xs (4 * i) 4 ∷ subids (drop (4 * i + 4) xs) = sym (subids-drop i xs) ∙ subids-step xs (4 * i) h in
    let g : get_or (subids xs) i 0 ≡ be_at xs (4 * i) 4 = sym (ap (λ (k : ℕ). get_or (subids xs) k 0) (plus_none i)) ∙ sym (get_or-drop i (subids xs) 0 0) ∙ ap (λ (u : List ℕ). get_or u 0 0) d in
    sym g
  where
    plus_none : (k : ℕ) → k + 0 ≡ k
    plus_none k = omega arith

pub sub-count : (xs : List ℕ) → length xs / 4 ≡ length (subids xs)
sub-count xs = sym (subids-count xs)

pub named_again : (ids a : List ℕ) (p q i r : ℕ) {b b' : List ℕ} (v : ℕ) → Named ids a b p q i → 2 < i → p ≤ length a → v ≡ get_or ids (i - 1) 0 → Put b b' r q (base128 v) → length b' ≡ length b → Named ids a b' p r (i - 1)
named_again ids a p q i r {b} v w h l e f k =
    let z : i ≡ suc (i - 1) = omega arith in
    let w' : Named ids a b p q (suc (i - 1)) = subst (λ (j : ℕ). Named ids a b p q j) z w in
    named_more ids a p q (i - 1) r v w' (omega arith) l e f k

pub named-last : (ids a : List ℕ) (p q i r : ℕ) {b b' : List ℕ} (v : ℕ) → Named ids a b p q i → i ≤ 2 → p ≤ length a → v ≡ 40 * get_or ids 0 0 + get_or ids 1 0 → Put b b' r q (base128 v)
    → Put a b' r p (numbers_octets (first_one ids))
named-last ids a p q i r {b} v w h l e f =
    let z : i ≡ 2 = omega (arith, w.two) in
    let w' : Named ids a b p q 2 = subst (λ (j : ℕ). Named ids a b p q j) z w in
    named-done ids a p q r v w' l e f

pub written-first : (s : List ℕ) (at : ℕ) → name_written s at ≡ true → be_at s at 4 ≤ 2
unfolding name_written
written-first s at = go (eqb (be_at s at 4) 2) (ltb (be_at s at 4) 2) refl refl
  where
    go : (a b : Bool) → eqb (be_at s at 4) 2 ≡ a → ltb (be_at s at 4) 2 ≡ b → (a || (b && ltb (be_at s (at + 4) 4) 40)) ≡ true → be_at s at 4 ≤ 2
    go true b e f h = omega (arith, eqb-true (be_at s at 4) 2 e)
    go false true e f h = omega (arith, ltb-true (be_at s at 4) 2 f)
    go false false e f h = let z : ◌≡◌ {A = ℕ} 0 1 = cc in absurd (omega arith)

pub subs-first : (xs : List ℕ) {x y : ℕ} → 8 ≤ length xs → x ≡ be_at xs 0 4 → y ≡ be_at xs 4 4 → x * 40 + y ≡ 40 * get_or (subids xs) 0 0 + get_or (subids xs) 1 0
subs-first xs {x} {y} h e f =
    let a : x ≡ get_or (subids xs) 0 0 = e ∙ sub_at xs 0 (omega arith) in
    let b : y ≡ get_or (subids xs) 1 0 = f ∙ sub_at xs 1 (omega arith) in
    omega arith

pub put-length : (a : List ℕ) (r p : ℕ) (xs : List ℕ) {b : List ℕ} → r + length xs ≡ p → p ≤ length a → b ≡ patch a r xs → length b ≡ length a
put-length a r p xs e h q = ap length q ∙ length-patch a r xs (omega arith)

pub shortened-most : (xs : List ℕ) → length (shortened xs) ≤ length xs
unfolding shortened
shortened-most [] = omega arith
shortened-most (x ∷ []) = omega arith
shortened-most (x ∷ y ∷ ys) = go (fewest (x ∷ y ∷ ys)) (shortened-most (y ∷ ys))
  where
    go : (t : Bool) → length (shortened (y ∷ ys)) ≤ length (y ∷ ys) → length (cond t (x ∷ y ∷ ys) (shortened (y ∷ ys))) ≤ length (x ∷ y ∷ ys)
    go true h = omega arith
    go false h = omega arith

pub number_put : (xs out : List ℕ) (p : ℕ) {ys b : List ℕ} → length xs ≤ p → ys ≡ shortened xs → b ≡ patch out (p - length ys) ys
    → Put out b (p - length ys) p (shortened xs)
number_put xs out p {ys} h e q = record { starts = omega (arith, ap length e, shortened-most xs); filled = q ∙ ap (patch out (p - length ys)) e }

-- ## Contents

module _ (tag len : ℕ) (r : content_length tag len ≡ true) where
  pub unsigned-four : (eqb tag 0x23 || eqb tag 0x24) ≡ true → len ≡ 4
  unfolding content_length
  unsigned-four = go (eqb tag 0x23) (eqb tag 0x24) refl refl
    where
      at_tag : (t : ℕ) → tag ≡ t → content_length t len ≡ true
      at_tag t e = rw (← e) r

      go : (a b : Bool) → eqb tag 0x23 ≡ a → eqb tag 0x24 ≡ b → (a || b) ≡ true → len ≡ 4
      go true b e f h = eqb-true len 4 (at_tag 0x23 (eqb-true tag 0x23 e))
      go false true e f h = eqb-true len 4 (at_tag 0x24 (eqb-true tag 0x24 f))
      go false false e f h = let z : ◌≡◌ {A = ℕ} 0 1 = cc in absurd (omega arith)

pub integer-ber : (tag : ℕ) (xs : List ℕ) → tag ≡ 0x21 → shortened xs ≡ content_ber tag xs
unfolding content_ber
integer-ber tag xs e = rw e

pub unsigned-ber : (tag : ℕ) (xs ys : List ℕ) → (tag ≡ 0x21 → ⊥) → (eqb tag 0x23 || eqb tag 0x24) ≡ true → ys ≡ 0 ∷ xs → shortened ys ≡ content_ber tag xs
unfolding content_ber
unsigned-ber tag xs ys a e q = rw (ne_eqb tag 0x21 a, e, q)

pub other-ber : (tag : ℕ) (xs : List ℕ) → (tag ≡ 0x21 → ⊥) → (eqb tag 0x23 || eqb tag 0x24) ≡ false → xs ≡ content_ber tag xs
unfolding content_ber
other-ber tag xs a e = rw (ne_eqb tag 0x21 a, e)

pub five-signed : (xs : List ℕ) → length xs ≡ 4 → patch (replicate 5 0) 1 xs ≡ 0 ∷ xs
five-signed xs e =
    patch-mid (0 ∷ []) (replicate 4 0) [] xs 1 refl (sym e) ∙ append-nil ((0 ∷ []) ++ xs)

pub content-copied : (tag : ℕ) (xs out : List ℕ) (p : ℕ) {b : List ℕ} → length xs ≤ p → (tag ≡ 0x21 → ⊥) → (eqb tag 0x23 || eqb tag 0x24) ≡ false → b ≡ patch out (p - length xs) xs
    → Put out b (p - length xs) p (content_ber tag xs)
content-copied tag xs out p l a f q =
    let o : xs ≡ content_ber tag xs = other-ber tag xs a f in
    record { starts = omega (arith, ap length o); filled = q ∙ ap (patch out (p - length xs)) o }

-- ## A binding

pub header-most : (tag len : ℕ) → length (header_form tag len) ≤ 4
unfolding length_form be_octets
header-most tag len = go (ltb len 128) (ltb len 256)
  where
    go : (a b : Bool) → suc (length (cond a (len ∷ []) (cond b (0x81 ∷ len ∷ []) (0x82 ∷ (len / 256 % 256 ∷ len % 256 ∷ []))))) ≤ 4
    go true b = omega arith
    go false true = omega arith
    go false false = omega arith

pub content-most : (tag : ℕ) (xs : List ℕ) → length (content_ber tag xs) ≤ length xs + 1
unfolding content_ber
content-most tag xs = go (eqb tag 0x21) (eqb tag 0x23 || eqb tag 0x24)
  where
    go : (a b : Bool) → length (cond a (shortened xs) (cond b (shortened (0 ∷ xs)) xs)) ≤ length xs + 1
    go true b = omega (arith, shortened-most xs)
    go false true = omega (arith, shortened-most (0 ∷ xs))
    go false false = omega arith

numbers-most : (ns : List ℕ) → length (numbers_octets ns) ≤ 5 * length ns
unfolding numbers_octets
numbers-most [] = omega arith
numbers-most (n ∷ ns) = omega (arith, length-append (base128 n) (numbers_octets ns), length-base128 n, numbers-most ns)

first-most : (ids : List ℕ) → length (first_one ids) ≤ length ids
first-most [] = omega arith
first-most (x ∷ []) = omega arith
first-most (x ∷ y ∷ ys) = omega arith

pub name-most : (xs : List ℕ) → length (name_ber xs) ≤ 5 * (length xs / 4)
unfolding name_ber
name-most xs = omega (arith, numbers-most (first_one (subids xs)), first-most (subids xs), subids-count xs)

-- a name that is a part
pub written-own : (s : List ℕ) (p n : ℕ) → 8 ≤ n → name_written (part s p n) 0 ≡ name_written s p
unfolding name_written
written-own s p n h =
    let a : be_at (part s p n) 0 4 ≡ be_at s p 4 = be_at-same (part s p n) s 0 p 4 (λ i j. ap (λ (m : ℕ). get_or (part s p n) m 0) (omega arith) ∙ part-at s p n i (omega arith)) in
    let b : be_at (part s p n) (0 + 4) 4 ≡ be_at s (p + 4) 4 = be_at-same (part s p n) s (0 + 4) (p + 4) 4 (λ i j. part-at s p n (0 + 4 + i) (omega arith) ∙ ap (λ (m : ℕ). get_or s m 0) (omega arith)) in
    rw (a, b)

-- a field, from its contents and its header
pub field-before : (a : List ℕ) (r q p tag len : ℕ) (xs : List ℕ) {b c : List ℕ} → b ≡ patch a q xs → q + length xs ≡ p → p ≤ length a → len ≡ p - q → r + length (header_form tag len) ≡ q
    → c ≡ patch b r (header_form tag len) → (r + length (ber_octets tag xs) ≡ p) × (c ≡ patch a r (ber_octets tag xs))
unfolding ber_octets
field-before a r q p tag len xs {b} {c} e f l k g h =
    let n : len ≡ length xs = omega arith in
    let t : header_form tag len ≡ header_form tag (length xs) = ap (header_form tag) n in
    let u : length (header_form tag len) ≡ length (header_form tag (length xs)) = ap length t in (
      omega (arith, length-append (header_form tag (length xs)) xs),
      h ∙ ap (λ (v : List ℕ). patch v r (header_form tag len)) e ∙ before-put a r q (header_form tag len) xs g (omega arith) ∙ ap (λ (v : List ℕ). patch a r (v ++ xs)) t,
    )

-- two parts, one before the other
pub two-before : (a : List ℕ) (r q p : ℕ) (xs ys : List ℕ) {b c : List ℕ} → b ≡ patch a q ys → q + length ys ≡ p → p ≤ length a → r + length xs ≡ q → c ≡ patch b r xs
    → (r + length (xs ++ ys) ≡ p) × (c ≡ patch a r (xs ++ ys))
two-before a r q p xs ys e f l g h =
    (omega (arith, length-append xs ys), h ∙ ap (λ (v : List ℕ). patch v r xs) e ∙ before-put a r q xs ys g (omega arith))

pub binding-is : (s : List ℕ) (b : Binding) {name content : List ℕ} → name ≡ part s b.name b.size → content ≡ part s b.content b.len
    → ber_octets 0x30 (ber_octets 0x06 (name_ber name) ++ ber_octets (ber_tag b.tag) (content_ber b.tag content)) ≡ binding_ber (bound_at s b)
unfolding binding_ber
binding-is s b e f = rw (e, f)

-- what `&s[n..n + k]` lends
pub lent : (s : List ℕ) (n k : ℕ) → take (n + k - n) (drop n s) ≡ part s n k
lent s n k = let e : n + k - n ≡ k = omega arith in rw e
