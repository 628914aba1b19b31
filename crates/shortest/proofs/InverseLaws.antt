-- What was read in BER, written again: numbers, names and contents in the fewest octets are the octets that were read. Assumes nothing.
use Prim.Native.Nat.{ℕ, zero, suc, ◌+◌, ◌*◌, ◌-◌, ◌/◌, ◌%◌, ◌^◌, ◌≤◌, ◌<◌}
use mathlib.Core.Path.{◌≡◌, refl, sym, ap, ap₂, ◌∙◌}
use mathlib.Core.Bool.{Bool, true, false, cond, not, ◌&&◌}
use mathlib.Core.List.{List, [], ◌∷◌, ◌++◌, append_assoc}
use native.Mathlib.Omega.{arith}
use native.Mathlib.Nat.{pow-suc}
use borrow.Author.Tests.{lt-ltb, ltb-true, ltb-false, leb-true, leb-false, eqb-true, eqb-false, ne_eqb}
use lib.Dec.{leb, ltb, eqb}
use lib.ListN.{length, get_or, take, drop, replicate, length-append, length-drop}
use lib.Seq.{take_all}
use Rattle.octets.specs.Numbers.{be_at, be_octets}
use Rattle.octets.proofs.NumberLaws.{Octets, be_octets-be_at}
use Rattle.octets.proofs.BoolLaws.{both}
use Rattle.names.specs.SubIds.{name_octets, SubIdsFit}
use Rattle.names.proofs.SubIdLaws.{subids-name_octets}
use Rattle.message.specs.Form.{tag_allowed}
use Rattle.message.specs.Request.{content_role}
use Rattle.message.proofs.FormLaws.{clash, ok-same}
use Rattle.message.specs.declared.refusals.Reason.{Reason}
use Rattle.message.specs.declared.refusals.Reason.TheVariants.{HeadWrong, DatagramBroken, NoCounterpart}
use Rattle.std.specs.Prelude.{Some, Result, Ok, Err, ⊤}
use Rattle.ber.specs.Ber.{fewest, sign, five, four, integer32, unsigned32, unsigned8, is_number, ends_from, name_whole, numbers_from, first_of, first_two, sub_ids, all_below, name_fits, content_tag, content_judged, content_octets}
use Rattle.datagram.specs.Reading.{status_judged, tag_if, tag_taken}
use Rattle.sending.specs.Writing.{shortened, going_on, base128, numbers_octets, first_one, name_ber, ber_tag, content_ber}
use Rattle.sending.proofs.BackLaws.{Short, fits-short}
use Rattle.ber.proofs.ContentLaws.{pick}
use Rattle.ber.proofs.NameLaws.{first_small}
use Rattle.datagram.proofs.ReadLaws.{octets-four}
use Rattle.datagram.proofs.ReadableLaws.{judged-both}
use Rattle.datagram.proofs.PlaceLaws.{length-five, name_below}
use Rattle.sending.proofs.WriteLaws.{going-none, div-small}

-- ## Numbers

shortened_same : (xs : List ℕ) → fewest xs ≡ true → shortened xs ≡ xs
unfolding shortened
shortened_same [] e = refl
shortened_same (x ∷ []) e = refl
shortened_same (x ∷ y ∷ ys) e = rw e

-- an octet in front that repeats the sign goes
shortened-sign : (z : ℕ) (ys : List ℕ) → 1 ≤ length ys → z ≡ sign ys → shortened (z ∷ ys) ≡ shortened ys
unfolding shortened fewest
shortened-sign z [] h e = absurd (omega arith)
shortened-sign z (y ∷ ys) h e = go (leb 128 y) refl
  where
    go : (t : Bool) → leb 128 y ≡ t → shortened (z ∷ y ∷ ys) ≡ shortened (y ∷ ys)
    go true q =
        let v : z ≡ 255 = e ∙ rw q in
        rw (v, q)
    go false q =
        let v : z ≡ 0 = e ∙ rw q in
        rw (v, lt-ltb y 128 (leb-false 128 y q))

sign-again : (z : ℕ) (ys : List ℕ) → z ≡ sign ys → sign (z ∷ ys) ≡ z
sign-again z ys e = ap (λ (j : ℕ). cond (leb 128 j) 255 0) e ∙ go (leb 128 (get_or ys 0 0)) ∙ sym e
  where
    go : (t : Bool) → ◌≡◌ {A = ℕ} (cond (leb 128 (cond t 255 0)) 255 0) (cond t 255 0)
    go true = refl
    go false = refl

filled : (n z : ℕ) (xs : List ℕ) → 1 ≤ length xs → z ≡ sign xs → (shortened (replicate n z ++ xs) ≡ shortened xs) × (z ≡ sign (replicate n z ++ xs))
filled zero z xs h e = (refl, e)
filled (suc n) z xs h e =
    let (p, q) = filled n z xs h e in (
      shortened-sign z (replicate n z ++ xs) (omega (arith, length-append (replicate n z) xs)) q ∙ p,
      sym (sign-again z (replicate n z ++ xs) q),
    )

pub some-octets : (xs : List ℕ) → fewest xs ≡ true → 1 ≤ length xs
unfolding fewest
some-octets [] e = clash (cc)
some-octets (x ∷ xs) e = omega arith

module _ (xs : List ℕ) (e : fewest xs ≡ true) where
  -- in any number of octets the same number
  filled-back : (n : ℕ) → shortened (replicate n (sign xs) ++ xs) ≡ xs
  filled-back n = (filled n (sign xs) xs (some-octets xs e) refl).0 ∙ shortened_same xs e

  pub integer-inverse : length xs ≤ 4 → shortened (four xs) ≡ xs
  unfolding five
  integer-inverse h =
      let k : 5 - length xs ≡ suc (4 - length xs) = omega arith in
      ap (λ (n : ℕ). shortened (drop 1 (replicate n (sign xs) ++ xs))) k ∙ filled-back (4 - length xs)

  pub unsigned-inverse : unsigned32 xs ≡ true → shortened (0 ∷ four xs) ≡ xs
  unfolding unsigned32 five
  unsigned-inverse u =
      let (l, z) = both (leb (length xs) 5) (eqb (get_or (five xs) 0 0) 0) u in
      let n : length (five xs) ≡ 5 = length-five xs (leb-true (length xs) 5 l) in
      let f : 0 ∷ four xs ≡ five xs = first (five xs) (omega arith) (eqb-true (get_or (five xs) 0 0) 0 z) in
      ap shortened f ∙ filled-back (5 - length xs)
    where
      first : (l : List ℕ) → 1 ≤ length l → get_or l 0 0 ≡ 0 → 0 ∷ drop 1 l ≡ l
      first [] h e = absurd (omega arith)
      first (y ∷ l) h e = ap (λ (j : ℕ). j ∷ l) (sym e)

-- an id
pub id-inverse : (xs : List ℕ) → Octets xs → fewest xs ≡ true → integer32 xs ≡ true → shortened (be_octets 4 (be_at (four xs) 0 4)) ≡ xs
unfolding integer32
id-inverse xs o e h =
    let few : length xs ≤ 4 = leb-true (length xs) 4 h in
    let n : length (four xs) ≡ 4 = length-drop 1 (five xs) ∙ omega (arith, length-five xs (omega arith)) in
    ap shortened (be_octets-be_at (four xs) 0 4 (octets-four xs o) (omega arith) ∙ take_whole (four xs) n) ∙ integer-inverse xs e few
  where
    take_whole : (l : List ℕ) → length l ≡ 4 → take 4 (drop 0 l) ≡ l
    take_whole l q = take_all 4 l (omega arith)

-- a status or an index
octet-inverse : (xs : List ℕ) → fewest xs ≡ true → unsigned8 xs ≡ true → shortened (0 ∷ get_or xs (length xs - 1) 0 ∷ []) ≡ xs
unfolding unsigned8 five fewest shortened
octet-inverse [] e u = clash (cc)
octet-inverse (x ∷ []) e u = shortened-sign 0 (x ∷ []) (omega arith) (sym (eqb-true (sign (x ∷ [])) 0 u))
octet-inverse (x ∷ y ∷ []) e u =
    let z : x ≡ 0 = eqb-true x 0 u in
    ap (λ (j : ℕ). shortened (j ∷ y ∷ [])) (sym z) ∙ shortened_same (x ∷ y ∷ []) e
octet-inverse (x ∷ y ∷ z ∷ xs) e u =
    let (l, w) = both (leb (length (x ∷ y ∷ z ∷ xs)) 2) (eqb (get_or (five (x ∷ y ∷ z ∷ xs)) 3 0) 0) u in
    absurd (omega (arith, leb-true (length (x ∷ y ∷ z ∷ xs)) 2 l))

number-octet : (xs : List ℕ) → is_number 0 xs ≡ true → unsigned8 xs ≡ true
unfolding is_number unsigned8 five
number-octet [] e = clash (cc)
number-octet (x ∷ []) e = let z : x ≡ 0 = eqb-true x 0 e in rw z
number-octet (x ∷ y ∷ xs) e =
    let (l, w) = both (eqb (length (x ∷ y ∷ xs)) 1) (eqb x 0) e in
    absurd (omega (arith, eqb-true (length (x ∷ y ∷ xs)) 1 l))

pub status-inverse : (kind : ℕ) (xs : List ℕ) → fewest xs ≡ true → status_judged kind xs ≡ Ok tt → shortened (0 ∷ get_or xs (length xs - 1) 0 ∷ []) ≡ xs
unfolding status_judged
status-inverse kind xs e j = octet-inverse xs e (go (is_number 0 xs) (eqb kind 2) (unsigned8 xs) refl refl j)
  where
    go : (a b c : Bool) → is_number 0 xs ≡ a → unsigned8 xs ≡ c → ◌≡◌ {A = Result ⊤ Reason} (cond a (Ok tt) (cond b (cond c (Ok tt) (Err NoCounterpart)) (Err HeadWrong))) (Ok tt) → unsigned8 xs ≡ true
    go true b c p q z = number-octet xs p
    go false true true p q z = q
    go false true false p q z = clash (cc)
    go false false c p q z = clash (cc)

-- ## Names

-- octets for a larger number are the same where they are enough
going_more : (k m : ℕ) → m < 128 ^ k → going_on (suc k) m ≡ going_on k m
unfolding going_on
going_more zero m h =
    let z : m ≡ 0 = omega arith in
    rw z
going_more (suc k) m h =
    let d : m / 128 < 128 ^ k = div-small m (128 ^ k) (rw pow-suc at h) in
    ap (λ (u : List ℕ). cond (eqb m 0) [] (u ++ ((128 + m % 128) ∷ []))) (going_more k (m / 128) d)

-- a number that goes on is small so far
going-small : (acc : ℕ) (xs : List ℕ) → ends_from false xs ≡ true → Short (numbers_from acc xs) → acc < 2 ^ 28
unfolding ends_from numbers_from
going-small acc [] e w = clash (cc)
going-small acc (x ∷ xs) e w = go (ltb x 128) refl w e (going-small (acc * 128 + (x - 128)) xs)
  where
    go : (t : Bool) → ltb x 128 ≡ t → Short (cond t ((acc * 128 + x) ∷ numbers_from 0 xs) (numbers_from (acc * 128 + (x - 128)) xs)) → ends_from t xs ≡ true
        → (ends_from false xs ≡ true → Short (numbers_from (acc * 128 + (x - 128)) xs) → acc * 128 + (x - 128) < 2 ^ 28) → acc < 2 ^ 28
    go true q v f k = omega (arith, v.0)
    go false q v f k = omega (arith, k f v)

going-some : (k m : ℕ) → (m ≡ 0 → ⊥) → going_on (suc k) m ≡ going_on k (m / 128) ++ ((128 + m % 128) ∷ [])
unfolding going_on
going-some k m f = rw (ne_eqb m 0 f)

-- one octet more of a number that goes on
going_next : (acc x : ℕ) → 128 ≤ x → x < 256 → (acc * 128 + (x - 128) ≡ 0 → ⊥) → acc < 2 ^ 21 → going_on 4 (acc * 128 + (x - 128)) ≡ going_on 4 acc ++ (x ∷ [])
going_next acc x l h n small =
    let m : ℕ = acc * 128 + (x - 128) in
    let d : m / 128 ≡ acc = omega arith in
    let r : 128 + m % 128 ≡ x = omega arith in
    going-some 3 m n ∙ ap₂ (λ (j i : ℕ). going_on 3 j ++ (i ∷ [])) d r ∙ ap (λ (u : List ℕ). u ++ (x ∷ [])) (sym (going_more 3 acc (omega arith)))

-- the numbers' octets, after those of a number that is not at its end
numbers-inverse : (acc : ℕ) (xs : List ℕ) → Octets xs → ends_from (eqb acc 0) xs ≡ true → Short (numbers_from acc xs) → numbers_octets (numbers_from acc xs) ≡ going_on 4 acc ++ xs
unfolding ends_from numbers_from numbers_octets base128
numbers-inverse acc [] o e w =
    let z : acc ≡ 0 = eqb-true acc 0 e in
    sym (ap (λ (j : ℕ). going_on 4 j ++ []) z ∙ ap (λ (u : List ℕ). u ++ []) (going-none 4))
numbers-inverse acc (x ∷ xs) o e w =
    go (ltb x 128) refl w (both (not (eqb acc 0 && eqb x 128)) (ends_from (ltb x 128) xs) e).1 (numbers-inverse 0 xs (λ i. o (suc i)))
    (numbers-inverse (acc * 128 + (x - 128)) xs (λ i. o (suc i)))
  where
    Inverse : ℕ → Type 0
    Inverse m = ends_from (eqb m 0) xs ≡ true → Short (numbers_from m xs) → numbers_octets (numbers_from m xs) ≡ going_on 4 m ++ xs

    ends : (acc * 128 + x) / 128 ≡ acc → (acc * 128 + x) % 128 ≡ x → numbers_octets (numbers_from 0 xs) ≡ xs → base128 (acc * 128 + x) ++ numbers_octets (numbers_from 0 xs) ≡ going_on 4 acc ++ (x ∷ xs)
    ends d r q = ap₂ (λ (j i : ℕ). (going_on 4 j ++ (i ∷ [])) ++ numbers_octets (numbers_from 0 xs)) d r ∙ append_assoc (going_on 4 acc) (x ∷ []) (numbers_octets (numbers_from 0 xs)) ∙ ap (λ (u : List ℕ). going_on 4 acc ++ (x ∷ u)) q

    fresh : (a b : Bool) → eqb acc 0 ≡ a → eqb x 128 ≡ b → not (a && b) ≡ true → 128 ≤ x → acc * 128 + (x - 128) ≡ 0 → ⊥
    fresh true true p q f l z = clash (cc)
    fresh true false p q f l z = eqb-false x 128 q (omega arith)
    fresh false b p q f l z = eqb-false acc 0 p (omega arith)

    go : (t : Bool) → ltb x 128 ≡ t → Short (cond t ((acc * 128 + x) ∷ numbers_from 0 xs) (numbers_from (acc * 128 + (x - 128)) xs)) → ends_from t xs ≡ true → Inverse 0 → Inverse (acc * 128 + (x - 128))
        → numbers_octets (cond t ((acc * 128 + x) ∷ numbers_from 0 xs) (numbers_from (acc * 128 + (x - 128)) xs)) ≡ going_on 4 acc ++ (x ∷ xs)
    go true q v f first next =
        let l : x < 128 = ltb-true x 128 q in
        ends (omega arith) (omega arith) (first f v.1 ∙ ap (λ (u : List ℕ). u ++ xs) (going-none 4))
    go false q v f first next =
        let l : 128 ≤ x = ltb-false x 128 q in
        let m : ℕ = acc * 128 + (x - 128) in
        let n : m ≡ 0 → ⊥ = fresh (eqb acc 0) (eqb x 128) refl refl (both (not (eqb acc 0 && eqb x 128)) (ends_from (ltb x 128) xs) e).0 l in
        let s : m < 2 ^ 28 = going-small m xs f v in
        next (rw (ne_eqb m 0 n) f) v
        ∙ ap (λ (u : List ℕ). u ++ xs) (going_next acc x l (o 0) n (omega arith))
        ∙ append_assoc (going_on 4 acc) (x ∷ []) xs

pub below-fits : (ns : List ℕ) → all_below (2 ^ 32) ns ≡ true → SubIdsFit ns
unfolding all_below
below-fits [] e = tt
below-fits (n ∷ ns) e =
    let (l, w) = both (ltb n (2 ^ 32)) (all_below (2 ^ 32) ns) e in
    (ltb-true n (2 ^ 32) l, below-fits ns w)

first-inverse : (ns : List ℕ) → SubIdsFit (first_two ns) → (first_one (first_two ns) ≡ ns) × Short ns
first-inverse [] w = (refl, tt)
first-inverse (n ∷ ns) w =
    let (two, most) = first_small n in
    let back : 40 * first_of n + (n - 40 * first_of n) ≡ n = omega arith in
    (ap (λ (j : ℕ). j ∷ ns) back, (omega (arith, w.1.0), fits-short ns w.1.1))

-- a name that was read is written as it was
pub name-inverse : (xs : List ℕ) → Octets xs → name_whole xs ≡ true → name_fits xs ≡ true → name_ber (name_octets (sub_ids xs)) ≡ xs
unfolding name_ber sub_ids name_whole
name-inverse xs o w f =
    let ns : List ℕ = numbers_from 0 xs in
    let fits : SubIdsFit (first_two ns) = below-fits (first_two ns) (name_below xs f).0 in
    let (back, short) = first-inverse ns fits in
    ap (λ (u : List ℕ). numbers_octets (first_one u)) (subids-name_octets (first_two ns) fits)
    ∙ ap numbers_octets back
    ∙ numbers-inverse 0 xs o (both (ltb 0 (length xs)) (ends_from true xs) w).1 short
    ∙ ap (λ (u : List ℕ). u ++ xs) (going-none 4)

-- ## Contents

written-number : (xs : List ℕ) → fewest xs ≡ true → cond (eqb (length xs) 0) [] (four xs) ≡ four xs
written-number xs e = rw (ne_eqb (length xs) 0 (λ z. omega (arith, some-octets xs e)))

empty-content : (t : Bool) (xs : List ℕ) → eqb (length xs) 0 ≡ t → ◌≡◌ {A = Result ⊤ Reason} (cond t (Ok tt) (Err DatagramBroken)) (Ok tt) → cond t [] (four xs) ≡ xs
empty-content true [] q e = refl
empty-content true (x ∷ xs) q e = absurd (omega (arith, eqb-true (length (x ∷ xs)) 0 q))
empty-content false xs q e = clash (cc)

pub content-inverse : (tag : ℕ) (xs : List ℕ) → content_judged tag xs ≡ Ok tt → content_ber tag (content_octets tag xs) ≡ xs
unfolding content_judged content_ber content_octets integer32
content-inverse tag xs =
    pick P 0x22 tag (λ e. refl)
    (λ n2. pick P 0x21 tag
    (λ e. let (f, i) = judged-both (fewest xs) (leb (length xs) 4) e in
    ap shortened (written-number xs f) ∙ integer-inverse xs f (leb-true (length xs) 4 i))
    (λ n1. pick P 0x23 tag
    (λ e. let (f, u) = judged-both (fewest xs) (unsigned32 xs) e in
    ap (λ (l : List ℕ). shortened (0 ∷ l)) (written-number xs f) ∙ unsigned-inverse xs f u)
    (λ n3. pick P 0x24 tag
    (λ e. let (f, u) = judged-both (fewest xs) (unsigned32 xs) e in
    ap (λ (l : List ℕ). shortened (0 ∷ l)) (written-number xs f) ∙ unsigned-inverse xs f u)
    (λ n4 e. rw (ne_eqb tag 0x21 n1, ne_eqb tag 0x22 n2, ne_eqb tag 0x23 n3, ne_eqb tag 0x24 n4)
    (empty-content (eqb (length xs) 0) xs refl (rw (ne_eqb tag 0x21 n1, ne_eqb tag 0x22 n2, ne_eqb tag 0x23 n3, ne_eqb tag 0x24 n4) at e))))))
  where
    P : ℕ → Type 0
    P t = content_judged t xs ≡ Ok tt → content_ber t (content_octets t xs) ≡ xs

-- a tag that is taken is the content's own
taken-is : (b : Bool) {m ours : ℕ} → ◌≡◌ {A = Result ℕ Reason} (cond b (Ok m) (Err NoCounterpart)) (Ok ours) → m ≡ ours
taken-is true e = ok-same e
taken-is false e = clash (cc)

-- the tag of a content that a place allows
pub tag-inverse : (kind tag : ℕ) {ours : ℕ} → tag_taken kind tag ≡ Ok ours → ber_tag ours ≡ tag
unfolding tag_taken content_tag ber_tag
tag-inverse kind tag {ours} =
    pick P 0x05 tag (own 0x20)
    (λ n0. pick P 0x02 tag (own 0x21)
    (λ n1. pick P 0x04 tag (own 0x22)
    (λ n2. pick P 0x42 tag (own 0x23)
    (λ n3. pick P 0x41 tag (own 0x24)
    (λ n4. pick P 0x80 tag (own 0x30)
    (λ n5. pick P 0x81 tag (own 0x31)
    (λ n6. pick P 0x82 tag (own 0x32)
    (λ n7 a. no-tag (rw (ne_eqb tag 0x05 n0, ne_eqb tag 0x02 n1, ne_eqb tag 0x04 n2, ne_eqb tag 0x42 n3, ne_eqb tag 0x41 n4, ne_eqb tag 0x80 n5, ne_eqb tag 0x81 n6, ne_eqb tag 0x82 n7) at a)))))))))
  where
    P : ℕ → Type 0
    P t = tag_taken kind t ≡ Ok ours → ber_tag ours ≡ t

    own : (m : ℕ) → ◌≡◌ {A = Result ℕ Reason} (tag_if kind (Some m)) (Ok ours) → ber_tag ours ≡ ber_tag m
    own m e = ap ber_tag (sym (taken-is (tag_allowed (content_role kind) m) e))

    no-tag : ◌≡◌ {A = Result ℕ Reason} (Err NoCounterpart) (Ok ours) → ber_tag ours ≡ tag
    no-tag e = clash (cc)
