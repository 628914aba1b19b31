-- Laws of names in BER: what a pass over the octets has seen, with what is left, is the whole. Assumes nothing.
use Prim.Native.Nat.{ℕ, suc, ◌+◌, ◌*◌, ◌-◌, ◌/◌, ◌%◌, ◌^◌, ◌≤◌, ◌<◌}
use mathlib.Core.Path.{◌≡◌, refl, sym, ap, ◌∙◌}
use mathlib.Core.Bool.{Bool, true, false, cond, not, ◌&&◌}
use mathlib.Core.List.{List, [], ◌∷◌, ◌++◌, append-nil}
use native.Mathlib.Omega.{arith}
use native.Mathlib.Numerals.{add-one}
use borrow.Author.Tests.{lt-ltb, le-ltb, ltb-true, ltb-false}
use lib.Dec.{ltb, eqb}
use lib.ListN.{length, get_or, drop, length-append, drop_of_length-le}
use lib.Seq.{drop-cons}
use mir.Val.{bool_byte}
use Rattle.octets.specs.Numbers.{be_octets}
use Rattle.octets.specs.Parts.{patch}
use Rattle.octets.proofs.PartLaws.{patch-patch, patch-none, length-patch}
use Rattle.octets.proofs.NumberLaws.{length-be_octets}
use Rattle.octets.proofs.BoolLaws.{left-of, right_of}
use Rattle.names.specs.SubIds.{name_octets}
use Rattle.names.proofs.SubIdLaws.{length-name_octets, name_octets-append}
use Rattle.std.specs.Prelude.{Some, None}
use Rattle.ber.specs.Ber.{sub_id_count, ends_from, name_whole, numbers_from, first_of, made, first_two, sub_ids, all_below, limit_of}

-- the sub-ids of numbers that are left
abbrev pub rest_of : (first : Bool) → List ℕ → List ℕ
rest_of true ns = first_two ns
rest_of false ns = ns

rest-cons : (f : Bool) (n : ℕ) (ns : List ℕ) → rest_of f (n ∷ ns) ≡ made f n ++ ns
rest-cons true n ns = refl
rest-cons false n ns = refl

pub limit-small : (f : Bool) → limit_of f ≤ 0x100000050
limit-small true = omega arith
limit-small false = omega arith

rest-none : (f : Bool) → rest_of f [] ≡ []
rest-none true = refl
rest-none false = refl

made-count : (f : Bool) (n m : ℕ) → m ≡ bool_byte f → length (made f n) ≡ 1 + m
made-count true n m e = omega arith
made-count false n m e = omega arith

second_below : (n : ℕ) → n < 0x100000050 → (first_of n < 0x100000000) × (n - 40 * first_of n < 0x100000000)
second_below n h = go (ltb n 80) refl
  where
    go : (t : Bool) → ltb n 80 ≡ t → (cond t (n / 40) 2 < 0x100000000) × (n - 40 * cond t (n / 40) 2 < 0x100000000)
    go true e = (omega (arith, ltb-true n 80 e), omega (arith, ltb-true n 80 e))
    go false e = (omega arith, omega (arith, ltb-false n 80 e))

second_above : (n : ℕ) → 0x100000050 ≤ n → (first_of n < 0x100000000) × (0x100000000 ≤ n - 40 * first_of n)
second_above n h = go (ltb n 80) refl
  where
    go : (t : Bool) → ltb n 80 ≡ t → (cond t (n / 40) 2 < 0x100000000) × (0x100000000 ≤ n - 40 * cond t (n / 40) 2)
    go true e = absurd (omega (arith, ltb-true n 80 e))
    go false e = (omega arith, omega arith)

-- the sub-ids that a number makes are below 2 ^ 32 where it is below its bound
below-made : (f : Bool) (n : ℕ) (ns : List ℕ) → n < limit_of f → all_below (2 ^ 32) (made f n ++ ns) ≡ all_below (2 ^ 32) ns
unfolding all_below
below-made true n ns h =
    let w : (first_of n < 0x100000000) × (n - 40 * first_of n < 0x100000000) = second_below n h in
    rw (lt-ltb (first_of n) 0x100000000 w.0, lt-ltb (n - 40 * first_of n) 0x100000000 w.1)
below-made false n ns h = rw (lt-ltb n 0x100000000 h)

above-made : (f : Bool) (n : ℕ) (ns : List ℕ) → limit_of f ≤ n → all_below (2 ^ 32) (made f n ++ ns) ≡ false
unfolding all_below
above-made true n ns h =
    let w : (first_of n < 0x100000000) × (0x100000000 ≤ n - 40 * first_of n) = second_above n h in
    rw (lt-ltb (first_of n) 0x100000000 w.0, le-ltb (n - 40 * first_of n) 0x100000000 w.1)
above-made false n ns h = rw (le-ltb n 0x100000000 h)

-- a number that has passed its bound stays above it to its end
over : (f : Bool) (acc : ℕ) (xs : List ℕ) → limit_of f ≤ acc → ends_from false xs ≡ true → all_below (2 ^ 32) (rest_of f (numbers_from acc xs)) ≡ false
unfolding ends_from numbers_from
over f acc [] h e = let z : ◌≡◌ {A = ℕ} 0 1 = cc in absurd (omega arith)
over f acc (x ∷ xs) h e = go (ltb x 128) refl (λ q. over f (acc * 128 + (x - 128)) xs (omega arith) (rw q at e))
  where
    go : (t : Bool) → ltb x 128 ≡ t → (ltb x 128 ≡ false → all_below (2 ^ 32) (rest_of f (numbers_from (acc * 128 + (x - 128)) xs)) ≡ false)
        → all_below (2 ^ 32) (rest_of f (cond t ((acc * 128 + x) ∷ numbers_from 0 xs) (numbers_from (acc * 128 + (x - 128)) xs))) ≡ false
    go true q k = rw (rest-cons f (acc * 128 + x)) (above-made f (acc * 128 + x) (numbers_from 0 xs) (omega arith))
    go false q k = k q

module _ (xs : List ℕ) (acc i x : ℕ) (h : i < length xs) (e : x ≡ get_or xs i 0) where
  numbers-low : x < 128 → numbers_from acc (drop i xs) ≡ (acc * 128 + x % 128) ∷ numbers_from 0 (drop (i + 1) xs)
  unfolding numbers_from
  numbers-low k =
      let m : acc * 128 + x ≡ acc * 128 + x % 128 = omega arith in
      rw (add-one i, drop-cons xs i 0 h, ← e, lt-ltb x 128 k, m)

  numbers-high : 128 ≤ x → x < 256 → numbers_from acc (drop i xs) ≡ numbers_from (acc * 128 + x % 128) (drop (i + 1) xs)
  unfolding numbers_from
  numbers-high k b =
      let m : acc * 128 + (x - 128) ≡ acc * 128 + x % 128 = omega arith in
      rw (add-one i, drop-cons xs i 0 h, ← e, le-ltb x 128 k, m)

  ends_next : (g : Bool) → ends_from g (drop i xs) ≡ true → ends_from (ltb x 128) (drop (i + 1) xs) ≡ true
  unfolding ends_from
  ends_next g w = rw add-one (right_of (not (g && eqb x 128)) (ends_from (ltb x 128) (drop (suc i) xs)) (rw (drop-cons xs i 0 h, ← e) at w))

-- i octets of a name are passed: acc is what those of an unfinished number make
pub record Passed (xs : List ℕ) (f : Bool) (acc i : ℕ) : Type 0 where
  pub within : i ≤ length xs
  pub small : acc < limit_of f
  pub ends : (g : Bool) × (ends_from g (drop i xs) ≡ true)
  pub fits : all_below (2 ^ 32) (rest_of f (numbers_from acc (drop i xs))) ≡ all_below (2 ^ 32) (sub_ids xs)

pub passed_none : (xs : List ℕ) → name_whole xs ≡ true → Passed xs true 0 0
unfolding name_whole sub_ids
passed_none xs e = record { within = omega arith; small = omega arith; ends = (true, right_of (ltb 0 (length xs)) (ends_from true xs) e); fits = refl }

module _ {xs : List ℕ} {f : Bool} {acc i : ℕ} (w : Passed xs f acc i) (x : ℕ) (h : i < length xs) (e : x ≡ get_or xs i 0) (b : x < 256) where
  -- what is left, after one octet more
  pub rest_more : 128 ≤ x → rest_of f (numbers_from acc (drop i xs)) ≡ rest_of f (numbers_from (acc * 128 + x % 128) (drop (i + 1) xs))
  rest_more l = ap (rest_of f) (numbers-high xs acc i x h e l b)

  pub rest-next : x < 128 → rest_of f (numbers_from acc (drop i xs)) ≡ made f (acc * 128 + x % 128) ++ numbers_from 0 (drop (i + 1) xs)
  rest-next l = rw (numbers-low xs acc i x h e l) (rest-cons f (acc * 128 + x % 128) (numbers_from 0 (drop (i + 1) xs)))

  pub passed_over : limit_of f ≤ acc * 128 + x % 128 → all_below (2 ^ 32) (sub_ids xs) ≡ false
  passed_over k = sym w.fits ∙ go (ltb x 128) refl
    where
      go : (t : Bool) → ltb x 128 ≡ t → all_below (2 ^ 32) (rest_of f (numbers_from acc (drop i xs))) ≡ false
      go true q = rw (numbers-low xs acc i x h e (ltb-true x 128 q), rest-cons f) (above-made f (acc * 128 + x % 128) (numbers_from 0 (drop (i + 1) xs)) k)
      go false q =
          rw (numbers-high xs acc i x h e (ltb-false x 128 q) b)
          (over f (acc * 128 + x % 128) (drop (i + 1) xs) k (rw q at (ends_next xs acc i x h e w.ends.0 w.ends.1)))

  module _ (k : acc * 128 + x % 128 < limit_of f) where
    pub passed-more : 128 ≤ x → Passed xs f (acc * 128 + x % 128) (i + 1)
    passed-more l =
        record {
          within = omega arith;
          small = k;
          ends = (ltb x 128, ends_next xs acc i x h e w.ends.0 w.ends.1);
          fits = rw (← numbers-high xs acc i x h e l b) w.fits;
        }

    pub passed-next : x < 128 → Passed xs false 0 (i + 1)
    passed-next l =
        record {
          within = omega arith;
          small = omega arith;
          ends = (ltb x 128, ends_next xs acc i x h e w.ends.0 w.ends.1);
          fits = sym (below-made f (acc * 128 + x % 128) (numbers_from 0 (drop (i + 1) xs)) k) ∙ sym (ap (all_below (2 ^ 32)) (rest-next l)) ∙ w.fits;
        }

pub rest_end : (xs : List ℕ) (f : Bool) (acc i : ℕ) → length xs ≤ i → rest_of f (numbers_from acc (drop i xs)) ≡ []
unfolding numbers_from
rest_end xs f acc i h = let e : drop i xs ≡ [] = drop_of_length-le xs {i = i} h in rw e (rest-none f)

-- counting the sub-ids
pub record Counted (xs : List ℕ) (f : Bool) (acc count i : ℕ) : Type 0 where
  pub passed : Passed xs f acc i
  pub few : count ≤ 2 * i
  pub counted : count + length (rest_of f (numbers_from acc (drop i xs))) ≡ length (sub_ids xs)

pub counted_none : (xs : List ℕ) → name_whole xs ≡ true → Counted xs true 0 0 0
unfolding sub_ids
counted_none xs e = record { passed = passed_none xs e; few = omega arith; counted = omega arith }

pub made-small : (f : Bool) (m : ℕ) → m ≡ bool_byte f → m ≤ 1
made-small true m q = omega arith
made-small false m q = omega arith

module _ {xs : List ℕ} {f : Bool} {acc count i : ℕ} (w : Counted xs f acc count i) (x : ℕ) (h : i < length xs) (e : x ≡ get_or xs i 0) (b : x < 256) (k : acc * 128 + x % 128 < limit_of f) where
  pub counted-more : 128 ≤ x → Counted xs f (acc * 128 + x % 128) count (i + 1)
  counted-more l =
      record {
        passed = passed-more w.passed x h e b k l;
        few = omega (arith, w.few);
        counted = omega (arith, w.counted, ap length (rest_more w.passed x h e b l));
      }

  pub counted_next : (m : ℕ) → m ≡ bool_byte f → x < 128 → Counted xs false 0 (count + (1 + m)) (i + 1)
  counted_next m q l =
      let c : length (made f (acc * 128 + x % 128)) ≡ 1 + m = made-count f (acc * 128 + x % 128) m q in
      let two : m ≤ 1 = made-small f m q in
      record {
        passed = passed-next w.passed x h e b k l;
        few = omega (arith, w.few);
        counted =
            omega (
              arith,
              w.counted,
              ap length (rest-next w.passed x h e b l),
              length-append (made f (acc * 128 + x % 128)) (numbers_from 0 (drop (i + 1) xs)),
            );
      }

pub counted-as : {xs : List ℕ} {f g : Bool} {acc acc' count count' i : ℕ} → Counted xs f acc count i → g ≡ f → acc' ≡ acc → count' ≡ count → Counted xs g acc' count' i
counted-as w p q r = rw (p, q, r) w

pub counted-over : (xs : List ℕ) → all_below (2 ^ 32) (sub_ids xs) ≡ false → None ≡ sub_id_count xs
counted-over xs e = rw e

pub counted-done : {xs : List ℕ} {f : Bool} {acc count i : ℕ} → Counted xs f acc count i → length xs ≤ i → Some count ≡ sub_id_count xs
unfolding all_below
counted-done {xs} {f} {acc} {count} {i} w h =
    let z : rest_of f (numbers_from acc (drop i xs)) ≡ [] = rest_end xs f acc i h in
    let t : true ≡ all_below (2 ^ 32) (sub_ids xs) = rw z at w.passed.fits in
    let n : count ≡ length (sub_ids xs) = omega (arith, w.counted, ap length z) in
    rw (← t, n)

-- a number that goes on has an octet more
goes_on : (xs : List ℕ) → ends_from false xs ≡ true → 0 < length xs
unfolding ends_from
goes_on [] e = let z : ◌≡◌ {A = ℕ} 0 1 = cc in absurd (omega arith)
goes_on (x ∷ xs) e = omega arith

some_number : (g : Bool) (acc : ℕ) (xs : List ℕ) → ends_from g xs ≡ true → 0 < length xs → 1 ≤ length (numbers_from acc xs)
unfolding ends_from numbers_from
some_number g acc [] e h = absurd (omega arith)
some_number g acc (x ∷ xs) e h =
    go (ltb x 128) refl
    (λ q. let k : ends_from false xs ≡ true = rw q at (right_of (not (g && eqb x 128)) (ends_from (ltb x 128) xs) e) in some_number false (acc * 128 + (x - 128)) xs k (goes_on xs k))
  where
    go : (t : Bool) → ltb x 128 ≡ t → (ltb x 128 ≡ false → 1 ≤ length (numbers_from (acc * 128 + (x - 128)) xs))
        → 1 ≤ length (cond t ((acc * 128 + x) ∷ numbers_from 0 xs) (numbers_from (acc * 128 + (x - 128)) xs))
    go true q k = omega arith
    go false q k = k q

two-of : (ns : List ℕ) → 1 ≤ length ns → 2 ≤ length (first_two ns)
two-of [] h = absurd (omega arith)
two-of (n ∷ ns) h = omega arith

-- a whole name has two sub-ids at least
pub two-sub-ids : (xs : List ℕ) → name_whole xs ≡ true → 2 ≤ length (sub_ids xs)
unfolding name_whole sub_ids
two-sub-ids xs e =
    two-of (numbers_from 0 xs)
    (some_number true 0 xs (right_of (ltb 0 (length xs)) (ends_from true xs) e) (ltb-true 0 (length xs) (left-of (ltb 0 (length xs)) (ends_from true xs) e)))

-- writing the sub-ids
pub made-two : (f : Bool) (n : ℕ) → f ≡ true → length (made f n) ≡ 2
made-two f n e = rw e

pub made_one : (f : Bool) (n : ℕ) → f ≡ false → length (made f n) ≡ 1
made_one f n e = rw e

pub first_small : (n : ℕ) → (first_of n ≤ 2) × (40 * first_of n ≤ n)
first_small n = go (ltb n 80) refl
  where
    go : (t : Bool) → ltb n 80 ≡ t → (cond t (n / 40) 2 ≤ 2) × (40 * cond t (n / 40) 2 ≤ n)
    go true e = (omega (arith, ltb-true n 80 e), omega arith)
    go false e = (omega arith, omega (arith, ltb-false n 80 e))

pub made-put : (b : List ℕ) (at : ℕ) (f : Bool) (n v : ℕ) → f ≡ true → v ≡ first_of n → at + 8 ≤ length b
    → patch (patch b at (be_octets 4 v)) (at + 4) (be_octets 4 (n - 40 * v)) ≡ patch b at (name_octets (made f n))
unfolding name_octets
made-put b at f n v q e h =
    patch-patch b at (be_octets 4 v) (be_octets 4 (n - 40 * v)) (at + 4) (omega (arith, length-be_octets 4 v)) (omega (arith, length-be_octets 4 (n - 40 * v)))
    ∙ rw (q, e, append-nil (be_octets 4 (n - 40 * first_of n)))

pub other-put : (b : List ℕ) (at : ℕ) (f : Bool) (n : ℕ) → f ≡ false → patch b at (be_octets 4 n) ≡ patch b at (name_octets (made f n))
unfolding name_octets
other-put b at f n q = rw (q, append-nil (be_octets 4 n))

-- i octets are passed, and the sub-ids that they end are in the room b, which was a; what is left makes of b what all make of a
pub record Put (xs : List ℕ) (a b : List ℕ) (f : Bool) (acc w i : ℕ) : Type 0 where
  pub passed : Passed xs f acc i
  pub long : length b ≡ length a
  pub room : w + 4 * length (rest_of f (numbers_from acc (drop i xs))) ≤ length a
  pub left : patch b w (name_octets (rest_of f (numbers_from acc (drop i xs)))) ≡ patch a 0 (name_octets (sub_ids xs))

pub put-none : (xs a : List ℕ) → name_whole xs ≡ true → 4 * length (sub_ids xs) ≤ length a → Put xs a a true 0 0 0
unfolding sub_ids
put-none xs a e h = record { passed = passed_none xs e; long = refl; room = omega arith; left = refl }

module _ {xs a b : List ℕ} {f : Bool} {acc w i : ℕ} (p : Put xs a b f acc w i) (x : ℕ) (h : i < length xs) (e : x ≡ get_or xs i 0) (small : x < 256)
    (all : all_below (2 ^ 32) (sub_ids xs) ≡ true) where
  pub put-below : acc * 128 + x % 128 < limit_of f
  put-below = go (ltb (acc * 128 + x % 128) (limit_of f)) refl
    where
      go : (t : Bool) → ltb (acc * 128 + x % 128) (limit_of f) ≡ t → acc * 128 + x % 128 < limit_of f
      go true q = ltb-true (acc * 128 + x % 128) (limit_of f) q
      go false q =
          let o : all_below (2 ^ 32) (sub_ids xs) ≡ false = passed_over p.passed x h e small (ltb-false (acc * 128 + x % 128) (limit_of f) q) in
          let z : ◌≡◌ {A = ℕ} 0 1 = cc in
          absurd (omega arith)

  pub put-more : 128 ≤ x → Put xs a b f (acc * 128 + x % 128) w (i + 1)
  put-more l =
      record {
        passed = passed-more p.passed x h e small put-below l;
        long = p.long;
        room = rw (← rest_more p.passed x h e small l) p.room;
        left = rw (← rest_more p.passed x h e small l) p.left;
      }

  pub put-room : x < 128 → w + 4 * length (made f (acc * 128 + x % 128)) ≤ length b
  put-room l =
      omega (
        arith,
        p.room,
        p.long,
        ap length (rest-next p.passed x h e small l),
        length-append (made f (acc * 128 + x % 128)) (numbers_from 0 (drop (i + 1) xs)),
      )

  pub put_next : {b' : List ℕ} {w' : ℕ} → x < 128 → w' ≡ w + 4 * length (made f (acc * 128 + x % 128)) → b' ≡ patch b w (name_octets (made f (acc * 128 + x % 128)))
      → Put xs a b' false 0 w' (i + 1)
  put_next {b'} {w'} l q r =
      let n : List ℕ = made f (acc * 128 + x % 128) in
      let ns : List ℕ = numbers_from 0 (drop (i + 1) xs) in
      let whole : rest_of f (numbers_from acc (drop i xs)) ≡ n ++ ns = rest-next p.passed x h e small l in
      let sizes : length (rest_of f (numbers_from acc (drop i xs))) ≡ length n + length ns = ap length whole ∙ length-append n ns in
      let ln : length (name_octets n) ≡ 4 * length n = length-name_octets n in
      let ls : length (name_octets ns) ≡ 4 * length ns = length-name_octets ns in
      record {
        passed = passed-next p.passed x h e small put-below l;
        long = ap length r ∙ length-patch b w (name_octets n) (omega (arith, put-room l)) ∙ p.long;
        room = omega (arith, p.room);
        left =
            ap (λ (u : List ℕ). patch u w' (name_octets ns)) r
            ∙ patch-patch b w (name_octets n) (name_octets ns) w' (omega arith) (omega (arith, p.room, p.long))
            ∙ ap (patch b w) (sym (name_octets-append n ns) ∙ ap name_octets (sym whole))
            ∙ p.left;
      }

pub put_as : {xs a b b' : List ℕ} {f g : Bool} {acc acc' w w' i : ℕ} → Put xs a b f acc w i → b' ≡ b → g ≡ f → acc' ≡ acc → w' ≡ w → Put xs a b' g acc' w' i
put_as p q r s t = rw (q, r, s, t) p

pub put-done : {xs a b : List ℕ} {f : Bool} {acc w i : ℕ} → Put xs a b f acc w i → length xs ≤ i → b ≡ patch a 0 (name_octets (sub_ids xs))
unfolding name_octets
put-done {xs} {a} {b} {f} {acc} {w} {i} p h =
    let z : rest_of f (numbers_from acc (drop i xs)) ≡ [] = rest_end xs f acc i h in
    patch-none b w ∙ ap (λ (u : List ℕ). patch b w (name_octets u)) (sym z) ∙ p.left
