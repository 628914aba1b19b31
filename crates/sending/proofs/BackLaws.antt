-- What was written in BER, read again: numbers, names and contents. Assumes nothing.
use Prim.Native.Nat.{ℕ, zero, suc, ◌+◌, ◌*◌, ◌-◌, ◌/◌, ◌%◌, ◌^◌, ◌≤◌, ◌<◌}
use mathlib.Core.Path.{◌≡◌, refl, sym, ap, subst, ◌∙◌}
use mathlib.Core.Bool.{Bool, true, false, cond, not, ◌&&◌, ◌||◌}
use mathlib.Core.List.{List, [], ◌∷◌, ◌++◌, append_assoc}
use native.Mathlib.Omega.{arith}
use native.Mathlib.Nat.{pow-suc}
use borrow.Author.Tests.{le-leb, lt-leb, lt-ltb, le-ltb, eqb-true, eqb-false, ne_eqb, ltb-true, leb-true}
use lib.Dec.{leb, ltb, eqb}
use lib.ListN.{length, get_or, drop, replicate, length-append}
use Rattle.std.specs.Prelude.{Some, Result, Ok, Err, ⊤}
use Rattle.octets.specs.Numbers.{be_at}
use Rattle.octets.proofs.NumberLaws.{Octets}
use Rattle.names.specs.SubIds.{subids, name_octets, SubIdsFit}
use Rattle.names.proofs.SubIdLaws.{subids-step, subids-count, name_octets-subids, subids-fit}
use Rattle.message.specs.declared.form.Role.TheVariants.{Answered}
use Rattle.message.specs.declared.refusals.Reason.{Reason}
use Rattle.message.specs.declared.refusals.Reason.TheVariants.{DatagramBroken}
use Rattle.message.specs.Form.{tag_allowed, content_length}
use Rattle.message.proofs.FormLaws.{clash}
use Rattle.ber.specs.Ber.{fewest, sign, five, four, integer32, unsigned32, unsigned8, ends_from, name_whole, numbers_from, made, first_two, sub_ids, all_below, name_fits, content_tag, number_judged, content_judged, content_octets}
use Rattle.ber.proofs.ContentLaws.{pick}
use Rattle.sending.specs.Writing.{shortened, going_on, base128, numbers_octets, first_one, name_ber, name_written, ber_tag, content_ber}
use Rattle.sending.proofs.WriteLaws.{div-small, going-none, shortened-most}

-- ## Numbers in the fewest octets

-- an octet that only repeats the sign
repeats : (x y : ℕ) (ys : List ℕ) → fewest (x ∷ y ∷ ys) ≡ false → (x ≡ sign (y ∷ ys)) × (sign (x ∷ y ∷ ys) ≡ sign (y ∷ ys))
unfolding fewest
repeats x y ys = go (eqb x 0) (ltb y 128) (eqb x 255) (leb 128 y) refl refl refl refl
  where
    low : x ≡ 0 → y < 128 → (x ≡ sign (y ∷ ys)) × (sign (x ∷ y ∷ ys) ≡ sign (y ∷ ys))
    low e h = (rw (lt-leb 128 y h) e, rw (lt-leb 128 y h, e))

    high : x ≡ 255 → 128 ≤ y → (x ≡ sign (y ∷ ys)) × (sign (x ∷ y ∷ ys) ≡ sign (y ∷ ys))
    high e h = (rw (le-leb 128 y h) e, rw (le-leb 128 y h, e))

    go : (a b c d : Bool) → eqb x 0 ≡ a → ltb y 128 ≡ b → eqb x 255 ≡ c → leb 128 y ≡ d → (not (a && b) && not (c && d)) ≡ false
        → (x ≡ sign (y ∷ ys)) × (sign (x ∷ y ∷ ys) ≡ sign (y ∷ ys))
    go true true c d p q r t e = low (eqb-true x 0 p) (ltb-true y 128 q)
    go true false true true p q r t e = high (eqb-true x 255 r) (leb-true 128 y t)
    go true false true false p q r t e = clash (cc)
    go true false false d p q r t e = clash (cc)
    go false b true true p q r t e = high (eqb-true x 255 r) (leb-true 128 y t)
    go false b true false p q r t e = clash (cc)
    go false b false d p q r t e = clash (cc)

replicate_next : (n a : ℕ) (l : List ℕ) → replicate (suc n) a ++ l ≡ replicate n a ++ (a ∷ l)
replicate_next zero a l = refl
replicate_next (suc n) a l = ap (λ (u : List ℕ). a ∷ u) (replicate_next n a l)

five-next : (x y : ℕ) (ys : List ℕ) → length (x ∷ y ∷ ys) ≤ 5 → fewest (x ∷ y ∷ ys) ≡ false → five (y ∷ ys) ≡ five (x ∷ y ∷ ys)
unfolding five
five-next x y ys h e =
    let w : (x ≡ sign (y ∷ ys)) × (sign (x ∷ y ∷ ys) ≡ sign (y ∷ ys)) = repeats x y ys e in
    let n : ℕ = sign (y ∷ ys) in
    let m : ℕ = 5 - length (x ∷ y ∷ ys) in
    let k : 5 - length (y ∷ ys) ≡ suc m = omega arith in
    ap (λ (j : ℕ). replicate j n ++ (y ∷ ys)) k
    ∙ replicate_next m n (y ∷ ys)
    ∙ ap (λ (j : ℕ). replicate m n ++ (j ∷ y ∷ ys)) (sym w.0)
    ∙ ap (λ (j : ℕ). replicate m j ++ (x ∷ y ∷ ys)) (sym w.1)

five-shortened : (xs : List ℕ) → length xs ≤ 5 → five (shortened xs) ≡ five xs
unfolding shortened
five-shortened [] h = refl
five-shortened (x ∷ []) h = refl
five-shortened (x ∷ y ∷ ys) h = go (fewest (x ∷ y ∷ ys)) refl (five-shortened (y ∷ ys) (omega arith))
  where
    go : (t : Bool) → fewest (x ∷ y ∷ ys) ≡ t → five (shortened (y ∷ ys)) ≡ five (y ∷ ys) → five (cond t (x ∷ y ∷ ys) (shortened (y ∷ ys))) ≡ five (x ∷ y ∷ ys)
    go true e q = refl
    go false e q = q ∙ five-next x y ys h e

pub fewest-shortened : (xs : List ℕ) → 1 ≤ length xs → fewest (shortened xs) ≡ true
unfolding shortened fewest
fewest-shortened [] h = absurd (omega arith)
fewest-shortened (x ∷ []) h = refl
fewest-shortened (x ∷ y ∷ ys) h = go (fewest (x ∷ y ∷ ys)) refl (fewest-shortened (y ∷ ys) (omega arith))
  where
    go : (t : Bool) → fewest (x ∷ y ∷ ys) ≡ t → fewest (shortened (y ∷ ys)) ≡ true → fewest (cond t (x ∷ y ∷ ys) (shortened (y ∷ ys))) ≡ true
    go true e q = e
    go false e q = q

pub shortened-least : (xs : List ℕ) → 1 ≤ length xs → 1 ≤ length (shortened xs)
unfolding shortened
shortened-least [] h = absurd (omega arith)
shortened-least (x ∷ []) h = omega arith
shortened-least (x ∷ y ∷ ys) h = go (fewest (x ∷ y ∷ ys)) (shortened-least (y ∷ ys) (omega arith))
  where
    go : (t : Bool) → 1 ≤ length (shortened (y ∷ ys)) → 1 ≤ length (cond t (x ∷ y ∷ ys) (shortened (y ∷ ys)))
    go true q = omega arith
    go false q = q

pub four-integer : (xs : List ℕ) → length xs ≡ 4 → four (shortened xs) ≡ xs
unfolding five
four-integer xs e = ap (drop 1) (five-shortened xs (omega arith)) ∙ ap (λ (j : ℕ). drop 1 (replicate (5 - j) (sign xs) ++ xs)) e

five-unsigned : (xs : List ℕ) → length xs ≡ 4 → five (shortened (0 ∷ xs)) ≡ 0 ∷ xs
unfolding five
five-unsigned xs e =
    let k : 5 - length (0 ∷ xs) ≡ 0 = omega arith in
    five-shortened (0 ∷ xs) (omega arith) ∙ ap (λ (j : ℕ). replicate j (sign (0 ∷ xs)) ++ (0 ∷ xs)) k

pub integer-fits : (xs : List ℕ) → length xs ≡ 4 → integer32 (shortened xs) ≡ true
unfolding integer32
integer-fits xs e = le-leb (length (shortened xs)) 4 (omega (arith, shortened-most xs))

unsigned-fits : (xs : List ℕ) → length xs ≡ 4 → unsigned32 (shortened (0 ∷ xs)) ≡ true
unfolding unsigned32
unsigned-fits xs e = rw (le-leb (length (shortened (0 ∷ xs))) 5 (omega (arith, shortened-most (0 ∷ xs))), five-unsigned xs e)

-- a status or an index
pub octet-fits : (n : ℕ) → unsigned8 (shortened (0 ∷ n ∷ [])) ≡ true
unfolding unsigned8 five
octet-fits n = rw (le-leb (length (shortened (0 ∷ n ∷ []))) 2 (omega (arith, shortened-most (0 ∷ n ∷ []))), five-shortened (0 ∷ n ∷ []) (omega arith))

pub octet-last : (n : ℕ) → get_or (shortened (0 ∷ n ∷ [])) (length (shortened (0 ∷ n ∷ [])) - 1) 0 ≡ n
unfolding shortened
octet-last n = go (fewest (0 ∷ n ∷ []))
  where
    go : (t : Bool) → get_or (cond t (0 ∷ n ∷ []) (n ∷ [])) (length (cond t (0 ∷ n ∷ []) (n ∷ [])) - 1) 0 ≡ n
    go true = refl
    go false = refl

-- ## Names

positive : (n : ℕ) → (n ≡ 0 → ⊥) → 0 < n
positive zero f = absurd (f refl)
positive (suc n) f = omega arith

going-read : (k m : ℕ) (r : List ℕ) → m < 128 ^ k → numbers_from 0 (going_on k m ++ r) ≡ numbers_from m r
unfolding going_on numbers_from
going-read zero m r h =
    let z : m ≡ 0 = omega arith in
    ap (λ (j : ℕ). numbers_from j r) (sym z)
going-read (suc k) m r h = go (eqb m 0) refl (going-read k (m / 128) ((128 + m % 128) ∷ r) (div-small m (128 ^ k) (rw pow-suc at h)))
  where
    go : (t : Bool) → eqb m 0 ≡ t → numbers_from 0 (going_on k (m / 128) ++ ((128 + m % 128) ∷ r)) ≡ numbers_from (m / 128) ((128 + m % 128) ∷ r)
        → numbers_from 0 (cond t [] (going_on k (m / 128) ++ ((128 + m % 128) ∷ [])) ++ r) ≡ numbers_from m r
    go true e q = ap (λ (j : ℕ). numbers_from j r) (sym (eqb-true m 0 e))
    go false e q =
        let n : m / 128 * 128 + (128 + m % 128 - 128) ≡ m = omega arith in
        ap (numbers_from 0) (append_assoc (going_on k (m / 128)) ((128 + m % 128) ∷ []) r)
        ∙ q
        ∙ rw (le-ltb (128 + m % 128) 128 (omega arith)) (ap (λ (j : ℕ). numbers_from j r) n)

base128-read : (n : ℕ) (r : List ℕ) → n < 2 ^ 35 → numbers_from 0 (base128 n ++ r) ≡ n ∷ numbers_from 0 r
unfolding base128 numbers_from
base128-read n r h =
    let e : n / 128 * 128 + n % 128 ≡ n = omega arith in
    ap (numbers_from 0) (append_assoc (going_on 4 (n / 128)) (n % 128 ∷ []) r)
    ∙ going-read 4 (n / 128) (n % 128 ∷ r) (omega arith)
    ∙ rw (lt-ltb (n % 128) 128 (omega arith)) (ap (λ (j : ℕ). j ∷ numbers_from 0 r) e)

going-ends : (k m : ℕ) (r : List ℕ) → 0 < m → m < 128 ^ k → ends_from true (going_on k m ++ r) ≡ ends_from false r
unfolding going_on ends_from
going-ends zero m r l h = absurd (omega arith)
going-ends (suc k) m r l h =
    rw (ne_eqb m 0 (λ e. omega arith))
    (ap (ends_from true) (append_assoc (going_on k (m / 128)) ((128 + m % 128) ∷ []) r)
    ∙ go (eqb (m / 128) 0) refl (λ j. going-ends k (m / 128) ((128 + m % 128) ∷ r) j (div-small m (128 ^ k) (rw pow-suc at h))))
  where
    go : (t : Bool) → eqb (m / 128) 0 ≡ t → (0 < m / 128 → ends_from true (going_on k (m / 128) ++ ((128 + m % 128) ∷ r)) ≡ ends_from false ((128 + m % 128) ∷ r))
        → ends_from true (going_on k (m / 128) ++ ((128 + m % 128) ∷ r)) ≡ ends_from false r
    go true e q =
        let z : m / 128 ≡ 0 = eqb-true (m / 128) 0 e in
        ap (λ (j : ℕ). ends_from true (going_on k j ++ ((128 + m % 128) ∷ r))) z
        ∙ ap (λ (u : List ℕ). ends_from true (u ++ ((128 + m % 128) ∷ r))) (going-none k)
        ∙ rw (ne_eqb (128 + m % 128) 128 (λ f. omega arith), le-ltb (128 + m % 128) 128 (omega arith))
    go false e q =
        let z : m / 128 ≡ 0 → ⊥ = eqb-false (m / 128) 0 e in
        q (positive (m / 128) z) ∙ rw (le-ltb (128 + m % 128) 128 (omega arith))

base128-ends : (n : ℕ) (r : List ℕ) → n < 2 ^ 35 → ends_from true (base128 n ++ r) ≡ ends_from true r
unfolding base128 ends_from
base128-ends n r h =
    ap (ends_from true) (append_assoc (going_on 4 (n / 128)) (n % 128 ∷ []) r) ∙ go (eqb (n / 128) 0) refl
  where
    go : (t : Bool) → eqb (n / 128) 0 ≡ t → ends_from true (going_on 4 (n / 128) ++ (n % 128 ∷ r)) ≡ ends_from true r
    go true e =
        ap (λ (j : ℕ). ends_from true (going_on 4 j ++ (n % 128 ∷ r))) (eqb-true (n / 128) 0 e)
        ∙ ap (λ (u : List ℕ). ends_from true (u ++ (n % 128 ∷ r))) (going-none 4)
        ∙ rw (ne_eqb (n % 128) 128 (λ f. omega arith), lt-ltb (n % 128) 128 (omega arith))
    go false e =
        going-ends 4 (n / 128) (n % 128 ∷ r) (positive (n / 128) (eqb-false (n / 128) 0 e)) (omega arith) ∙ rw (lt-ltb (n % 128) 128 (omega arith))

-- every number has at most five octets
abbrev pub Short : List ℕ → Type 0
Short [] = Unit {0}
Short (n ∷ ns) = (n < 2 ^ 35) × Short ns

numbers-read : (ns : List ℕ) → Short ns → numbers_from 0 (numbers_octets ns) ≡ ns
unfolding numbers_octets numbers_from
numbers-read [] w = refl
numbers-read (n ∷ ns) w = base128-read n (numbers_octets ns) w.0 ∙ ap (λ (u : List ℕ). n ∷ u) (numbers-read ns w.1)

numbers-end : (ns : List ℕ) → Short ns → ends_from true (numbers_octets ns) ≡ true
unfolding numbers_octets ends_from
numbers-end [] w = refl
numbers-end (n ∷ ns) w = base128-ends n (numbers_octets ns) w.0 ∙ numbers-end ns w.1

pub fits-short : (ns : List ℕ) → SubIdsFit ns → Short ns
fits-short [] w = tt
fits-short (n ∷ ns) w = (omega (arith, w.0), fits-short ns w.1)

fits_below : (ns : List ℕ) → SubIdsFit ns → all_below (2 ^ 32) ns ≡ true
unfolding all_below
fits_below [] w = refl
fits_below (n ∷ ns) w = rw (lt-ltb n (2 ^ 32) w.0) (fits_below ns w.1)

-- the first two sub-ids, of the number that they make
first_back : (x y : ℕ) → (eqb x 2 || (ltb x 2 && ltb y 40)) ≡ true → (x ≤ 2) × (made true (40 * x + y) ≡ x ∷ y ∷ [])
first_back x y = go (eqb x 2) (ltb x 2) (ltb y 40) refl refl refl
  where
    low : x < 2 → y < 40 → made true (40 * x + y) ≡ x ∷ y ∷ []
    low h k =
        let a : (40 * x + y) / 40 ≡ x = omega arith in
        let b : 40 * x + y - 40 * x ≡ y = omega arith in
        rw (lt-ltb (40 * x + y) 80 (omega arith), a, b)

    high : x ≡ 2 → made true (40 * x + y) ≡ x ∷ y ∷ []
    high e =
        let b : 40 * 2 + y - 40 * 2 ≡ y = omega arith in
        rw (e, le-ltb (40 * 2 + y) 80 (omega arith), b)

    go : (a b c : Bool) → eqb x 2 ≡ a → ltb x 2 ≡ b → ltb y 40 ≡ c → (a || (b && c)) ≡ true → (x ≤ 2) × (made true (40 * x + y) ≡ x ∷ y ∷ [])
    go true b c p q r e = (omega (arith, eqb-true x 2 p), high (eqb-true x 2 p))
    go false true true p q r e = (omega (arith, ltb-true x 2 q), low (ltb-true x 2 q) (ltb-true y 40 r))
    go false true false p q r e = clash (cc)
    go false false c p q r e = clash (cc)

base128-some : (v : ℕ) → 1 ≤ length (base128 v)
unfolding base128
base128-some v = omega (arith, length-append (going_on 4 (v / 128)) (v % 128 ∷ []))

pub record NameBack (name : List ℕ) : Type 0 where
  pub whole : name_whole (name_ber name) ≡ true
  pub fits : name_fits (name_ber name) ≡ true
  pub octets : name_octets (sub_ids (name_ber name)) ≡ name

pub name_back : (name : List ℕ) → Octets name → 8 ≤ length name → length name ≤ 512 → length name % 4 ≡ 0 → name_written name 0 ≡ true → NameBack name
unfolding name_ber name_written name_whole name_fits sub_ids numbers_octets
name_back name o l m f w =
    let x : ℕ = be_at name 0 4 in
    let y : ℕ = be_at name (0 + 4) 4 in
    let ys : List ℕ = subids (drop (0 + 4 + 4) name) in
    let split : subids name ≡ x ∷ y ∷ ys = subids-step name 0 (omega arith) ∙ ap (λ (u : List ℕ). x ∷ u) (subids-step name (0 + 4) (omega arith)) in
    let n : SubIdsFit (x ∷ y ∷ ys) = subst SubIdsFit split (subids-fit name o) in
    let (low, back) = first_back x y w in
    let short : Short ((40 * x + y) ∷ ys) = (omega (arith, n.1.0), fits-short ys n.1.1) in
    let one : first_one (subids name) ≡ (40 * x + y) ∷ ys = ap first_one split in
    let b : numbers_octets (first_one (subids name)) ≡ numbers_octets ((40 * x + y) ∷ ys) = ap numbers_octets one in
    let r : first_two (numbers_from 0 (numbers_octets (first_one (subids name)))) ≡ subids name =
    ap (λ (u : List ℕ). first_two (numbers_from 0 u)) b ∙ ap first_two (numbers-read ((40 * x + y) ∷ ys) short) ∙ ap (λ (u : List ℕ). u ++ ys) back ∙ sym split in
    let long : 1 ≤ length (numbers_octets ((40 * x + y) ∷ ys)) = some (40 * x + y) (numbers_octets ys) in
    record {
      whole = rw b (rw (lt-ltb 0 (length (numbers_octets ((40 * x + y) ∷ ys))) (omega arith)) (numbers-end ((40 * x + y) ∷ ys) short));
      fits = rw (r, fits_below (subids name) (subids-fit name o)) (le-leb (length (subids name)) 128 (omega (arith, subids-count name)));
      octets = ap name_octets r ∙ name_octets-subids name (length name / 4) o (omega arith);
    }
  where
    some : (v : ℕ) (r : List ℕ) → 1 ≤ length (base128 v ++ r)
    some v r = omega (arith, length-append (base128 v) r, base128-some v)

-- ## Contents

pub record ContentBack (tag : ℕ) (xs : List ℕ) : Type 0 where
  pub tagged : content_tag (ber_tag tag) ≡ Some tag
  pub judged : content_judged tag (content_ber tag xs) ≡ Ok tt
  pub octets : content_octets tag (content_ber tag xs) ≡ xs

number-judged : (short fits : Bool) → short ≡ true → fits ≡ true → number_judged short fits ≡ Ok tt
number-judged true true e f = refl
number-judged true false e f = clash (cc)
number-judged false fits e f = clash (cc)

not-empty : (xs : List ℕ) → 1 ≤ length xs → eqb (length xs) 0 ≡ false
not-empty xs h = ne_eqb (length xs) 0 (λ e. omega arith)

-- a content of no octets
module _ (xs : List ℕ) (e : eqb (length xs) 0 ≡ true) where
  empty-judged : ◌≡◌ {A = Result ⊤ Reason} (cond (eqb (length xs) 0) (Ok tt) (Err DatagramBroken)) (Ok tt)
  empty-judged = rw e

  empty-octets : cond (eqb (length xs) 0) [] (four xs) ≡ xs
  empty-octets = rw e (none xs e)
    where
      none : (l : List ℕ) → eqb (length l) 0 ≡ true → [] ≡ l
      none [] f = refl
      none (x ∷ l) f = absurd (omega (arith, eqb-true (length (x ∷ l)) 0 f))

-- a number of four octets
module _ (xs : List ℕ) (e : eqb (length xs) 4 ≡ true) where
  integer-judged : number_judged (fewest (shortened xs)) (integer32 (shortened xs)) ≡ Ok tt
  integer-judged =
      let l : length xs ≡ 4 = eqb-true (length xs) 4 e in
      number-judged (fewest (shortened xs)) (integer32 (shortened xs)) (fewest-shortened xs (omega arith)) (integer-fits xs l)

  integer-octets : cond (eqb (length (shortened xs)) 0) [] (four (shortened xs)) ≡ xs
  integer-octets =
      let l : length xs ≡ 4 = eqb-true (length xs) 4 e in
      rw (not-empty (shortened xs) (shortened-least xs (omega arith))) (four-integer xs l)

  unsigned-judged : number_judged (fewest (shortened (0 ∷ xs))) (unsigned32 (shortened (0 ∷ xs))) ≡ Ok tt
  unsigned-judged =
      let l : length xs ≡ 4 = eqb-true (length xs) 4 e in
      number-judged (fewest (shortened (0 ∷ xs))) (unsigned32 (shortened (0 ∷ xs))) (fewest-shortened (0 ∷ xs) (omega arith)) (unsigned-fits xs l)

  unsigned-octets : cond (eqb (length (shortened (0 ∷ xs))) 0) [] (four (shortened (0 ∷ xs))) ≡ xs
  unsigned-octets =
      let l : length xs ≡ 4 = eqb-true (length xs) 4 e in
      rw (not-empty (shortened (0 ∷ xs)) (shortened-least (0 ∷ xs) (omega arith))) (ap (drop 1) (five-unsigned xs l))

in-first : (tag : ℕ) → 0x20 ≤ tag → tag ≤ 0x24 → (tag ≡ 0x20 → ⊥) → (tag ≡ 0x21 → ⊥) → (tag ≡ 0x22 → ⊥) → (tag ≡ 0x23 → ⊥) → (tag ≡ 0x24 → ⊥) → ⊥
in-first tag a b n0 n1 n2 n3 n4 = omega arith

in-second : (tag : ℕ) → 0x30 ≤ tag → tag ≤ 0x32 → (tag ≡ 0x30 → ⊥) → (tag ≡ 0x31 → ⊥) → (tag ≡ 0x32 → ⊥) → ⊥
in-second tag a b n0 n1 n2 = omega arith

pub content-back : (tag : ℕ) (xs : List ℕ) → tag_allowed Answered tag ≡ true → content_length tag (length xs) ≡ true → ContentBack tag xs
unfolding tag_allowed content_length content_tag ber_tag content_judged content_ber content_octets
content-back tag xs =
    pick P 0x20 tag (λ a e. record { tagged = refl; judged = empty-judged xs e; octets = empty-octets xs e })
    (λ n0. pick P 0x21 tag (λ a e. record { tagged = refl; judged = integer-judged xs e; octets = integer-octets xs e })
    (λ n1. pick P 0x22 tag (λ a e. record { tagged = refl; judged = rw e; octets = refl })
    (λ n2. pick P 0x23 tag (λ a e. record { tagged = refl; judged = unsigned-judged xs e; octets = unsigned-octets xs e })
    (λ n3. pick P 0x24 tag (λ a e. record { tagged = refl; judged = unsigned-judged xs e; octets = unsigned-octets xs e })
    (λ n4. pick P 0x30 tag (λ a e. record { tagged = refl; judged = empty-judged xs e; octets = empty-octets xs e })
    (λ n5. pick P 0x31 tag (λ a e. record { tagged = refl; judged = empty-judged xs e; octets = empty-octets xs e })
    (λ n6. pick P 0x32 tag (λ a e. record { tagged = refl; judged = empty-judged xs e; octets = empty-octets xs e })
    (λ n7 a e. absurd (never (leb 0x20 tag) (leb tag 0x24) (leb 0x30 tag) (leb tag 0x32) refl refl refl refl a n0 n1 n2 n3 n4 n5 n6 n7)))))))))
  where
    P : ℕ → Type 0
    P t = ((leb 0x20 t && leb t 0x24) || (leb 0x30 t && leb t 0x32)) ≡ true → content_length t (length xs) ≡ true → ContentBack t xs

    never : (a b c d : Bool) → leb 0x20 tag ≡ a → leb tag 0x24 ≡ b → leb 0x30 tag ≡ c → leb tag 0x32 ≡ d → ((a && b) || (c && d)) ≡ true
        → (tag ≡ 0x20 → ⊥) → (tag ≡ 0x21 → ⊥) → (tag ≡ 0x22 → ⊥) → (tag ≡ 0x23 → ⊥) → (tag ≡ 0x24 → ⊥) → (tag ≡ 0x30 → ⊥) → (tag ≡ 0x31 → ⊥) → (tag ≡ 0x32 → ⊥) → ⊥
    never true true c d p q r t e n0 n1 n2 n3 n4 n5 n6 n7 = in-first tag (leb-true 0x20 tag p) (leb-true tag 0x24 q) n0 n1 n2 n3 n4
    never true false true true p q r t e n0 n1 n2 n3 n4 n5 n6 n7 = in-second tag (leb-true 0x30 tag r) (leb-true tag 0x32 t) n5 n6 n7
    never true false true false p q r t e n0 n1 n2 n3 n4 n5 n6 n7 = clash (cc)
    never true false false d p q r t e n0 n1 n2 n3 n4 n5 n6 n7 = clash (cc)
    never false b true true p q r t e n0 n1 n2 n3 n4 n5 n6 n7 = in-second tag (leb-true 0x30 tag r) (leb-true tag 0x32 t) n5 n6 n7
    never false b true false p q r t e n0 n1 n2 n3 n4 n5 n6 n7 = clash (cc)
    never false b false d p q r t e n0 n1 n2 n3 n4 n5 n6 n7 = clash (cc)
