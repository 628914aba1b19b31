-- Laws of `specs/Ports.antt`, over the width w: a set is its members, and what the word operations make of them. Assumes nothing.
use mathlib.Core.Logic.{by_cases}
use mathlib.Core.Path.{◌≡◌, refl, sym, ap, ap₂, ◌∙◌}
use mathlib.Core.List.{List, [], ◌∷◌, ◌++◌}
use mathlib.Core.Bool.{Bool, true, false, cond, ◌&&◌, and-false, beq}
use Prim.Native.Nat.{ℕ, zero, suc, ◌+◌, ◌-◌, ◌*◌, ◌/◌, ◌%◌, ◌^◌, ◌≤◌, ◌<◌, min}
use native.Mathlib.Nat.{one-le-pow, div-eq_of_lt, div-eq_of_lt-le, pos_of_ne-zero, mul-suc, zero-min, zero-mod, zero-div, mod-one, mul-mod_left, mul-add-mod_self_right, div-one, div-lt_iff_lt-mul, div-add-mod', div-div-eq-div-mul, mul_comm, mul_assoc, mul-one, add-zero, add-suc, pow-suc, sub_self}
use native.Mathlib.Decide.{dec_le, dec_lt}
use native.Mathlib.Numerals.{one-add}
use native.Mathlib.Omega.{arith}
use lib.Arith.{lt-one}
use lib.Bits.{bit_and, bit_xor, differ, and_step, xor_step, and_shr, xor_shr, and_zero_r, and_comm, and_lt, and_le_l, and_le_r, xor_add_and, xor_lt}
use lib.Count.{ones, ones_step, count_leading_zeros, leading_unique}
use lib.Dec.{eqb, leb}
use lib.ListN.{length, take, drop, get_or, get_or-eq_default, get_or-append}
use lib.Pow.{mod-pow-add, ones_lt, pow_pos, pow-add, pow-sub-lt, shl-shr, shr-shr, ones_split, high, high_ones, field, mod-mod-pow}
use lib.Seq.{get_or-drop, take-append-le, take_all, get_or-append-add}
use borrow.Author.Tests.{eqb-true, eq-eqb, le-leb, lt-leb}
use mir.Syntax.{w64}
use Rattle.std.specs.Int.{from_be_bytes}
use Rattle.octets.specs.Numbers.{be_at, be_octets}
use Rattle.octets.specs.Parts.{zeros}
use Rattle.octets.specs.Ports.{member, ports_to, only_to, disjoint, members_to, members, differs_from, first_differing, set_of, port_octets}
use Rattle.octets.proofs.NumberLaws.{Octets, length-be_octets, be_at-be_octets, be_at-lt, be_at-same}
use Rattle.octets.proofs.PartLaws.{zeros-at}
use Rattle.octets.proofs.BoolLaws.{one-or-none}

-- a port of 1 to w is in the set where its digit is 1
pub member-in : (w s p : ℕ) → 1 ≤ p → p ≤ w → member w s p ≡ eqb (s / 2 ^ (w - p) % 2) 1
unfolding member
member-in w s p h k = rw (le-leb 1 p h, le-leb p w k)

-- no port 0 is in a set
pub member-zero : (w s : ℕ) → member w s 0 ≡ false
unfolding member
member-zero w s = refl

-- no port above w is in a set
pub member-out : (w s p : ℕ) → w < p → member w s p ≡ false
unfolding member
member-out w s p h = rw (lt-leb p w h, and-false)

-- no port is in the empty set
pub member-none : (w p : ℕ) → member w 0 p ≡ false
unfolding member
member-none w p = rw (zero-div, and-false)

-- the ports but the last, and the last
member-step : (w s p : ℕ) → p ≤ w → member (suc w) s p ≡ member w (s / 2) p
unfolding member
member-step w s p h =
    let e : suc w - p ≡ suc (w - p) = omega arith in
    rw (le-leb p w h, le-leb p (suc w) (omega arith), e, pow-suc, mul_comm (2 ^ (w - p)) 2, ← div-div-eq-div-mul)

member-last : (w s : ℕ) → member (suc w) s (suc w) ≡ eqb (s % 2) 1
member-last w s = member-in (suc w) s (suc w) (omega arith) (omega arith) ∙ rw (sub_self, div-one)

-- a digit is what the test for 1 makes of it
digit-is : (x : ℕ) → x < 2 → cond (eqb x 1) 1 0 ≡ x
digit-is zero h = refl
digit-is (suc zero) h = refl
digit-is (suc (suc x)) h = omega arith

digit-same : (a b : ℕ) → eqb (a % 2) 1 ≡ eqb (b % 2) 1 → a % 2 ≡ b % 2
digit-same a b e = sym (digit-is (a % 2) (omega arith)) ∙ ap (λ (t : Bool). cond t 1 0) e ∙ digit-is (b % 2) (omega arith)

-- two sets with the same members are the same
pub members-same : (w a b : ℕ) → a < 2 ^ w → b < 2 ^ w → ((p : ℕ) → member w a p ≡ member w b p) → a ≡ b
members-same zero a b h k e = omega arith
members-same (suc w) a b h k e =
    let h₁ : a < 2 ^ w * 2 = rw pow-suc at h in
    let k₁ : b < 2 ^ w * 2 = rw pow-suc at k in
    let halves : a / 2 ≡ b / 2 =
    members-same w (a / 2) (b / 2) (omega arith) (omega arith) (λ p. by_cases (dec_le p w)
    (λ l. sym (member-step w a p l) ∙ e p ∙ member-step w b p l)
    (λ l. member-out w (a / 2) p (omega arith) ∙ sym (member-out w (b / 2) p (omega arith)))) in
    omega (arith, digit-same a b (sym (member-last w a) ∙ e (suc w) ∙ member-last w b))

-- no port above n is in a set of ports 1 to n only
pub only-members : (w n s : ℕ) → only_to w n s ≡ true → (p : ℕ) → n < p → member w s p ≡ false
unfolding only_to
only-members w n s e p h = by_cases (dec_le p w) (λ l.
    let i : w - n ≡ (p - n) + (w - p) = omega arith in
    let j : p - n ≡ (p - n - 1) + 1 = omega arith in
    let z : s / 2 ^ (w - p) % 2 ^ (p - n) ≡ 0 = sym (field s (p - n) (w - p)) ∙ rw (← i, eqb-true (s % 2 ^ (w - n)) 0 e) (zero-div (2 ^ (w - p))) in
    let d : s / 2 ^ (w - p) % 2 ≡ 0 = sym (mod-mod-pow (s / 2 ^ (w - p)) (p - n - 1) 1) ∙ rw (← j, z) in
    member-in w s p (omega arith) l ∙ rw d)
    (λ l. member-out w s p (omega arith))

low-none : (w s k : ℕ) → k ≤ w → ((p : ℕ) → w - k < p → p ≤ w → member w s p ≡ false) → s % 2 ^ k ≡ 0
low-none w s zero h e = mod-one s
low-none w s (suc k) h e =
    let i : w - (w - k) ≡ k = omega arith in
    let t : eqb (s / 2 ^ k % 2) 1 ≡ false = rw i at (sym (member-in w s (w - k) (omega arith) (omega arith)) ∙ e (w - k) (omega arith) (omega arith)) in
    ap (λ (j : ℕ). s % 2 ^ j) (sym (one-add k))
    ∙ mod-pow-add s 1 k
    ∙ rw (digit-same (s / 2 ^ k) 0 t, low-none w s k (omega arith) (λ p l. e p (omega arith))) (omega arith)

-- a set without ports above n is one of ports 1 to n only
pub members_only : (w n s : ℕ) → ((p : ℕ) → n < p → p ≤ w → member w s p ≡ false) → only_to w n s ≡ true
unfolding only_to
members_only w n s e = eq-eqb (s % 2 ^ (w - n)) 0 (low-none w s (w - n) (omega arith) (λ p l m. e p (omega arith) m))

digit_and : (x y : ℕ) → x < 2 → y < 2 → eqb (min x y) 1 ≡ eqb x 1 && eqb y 1
digit_and zero y h k = rw zero-min
digit_and (suc zero) zero h k = refl
digit_and (suc zero) (suc zero) h k = refl
digit_and (suc zero) (suc (suc y)) h k = absurd (omega arith)
digit_and (suc (suc x)) y h k = absurd (omega arith)

and-and : (c x y : Bool) → c && (x && y) ≡ (c && x) && (c && y)
and-and true x y = refl
and-and false x y = refl

-- a port is in the common set of two where it is in both
pub member-and : (w a b p : ℕ) → member w (bit_and a b) p ≡ member w a p && member w b p
unfolding member
member-and w a b p =
    let x : ℕ = a / 2 ^ (w - p) in
    let y : ℕ = b / 2 ^ (w - p) in
    let e : bit_and a b / 2 ^ (w - p) % 2 ≡ min (x % 2) (y % 2) = ap (λ (n : ℕ). n % 2) (and_shr a b (w - p)) ∙ omega (arith, and_step x y) in
    ap (λ (t : Bool). (leb 1 p && leb p w) && t) (ap (λ (n : ℕ). eqb n 1) e ∙ digit_and (x % 2) (y % 2) (omega arith) (omega arith))
    ∙ and-and (leb 1 p && leb p w) (eqb (x % 2) 1) (eqb (y % 2) 1)

-- no port is in both of two disjoint sets
pub disjoint-members : (w a b : ℕ) → disjoint a b ≡ true → (p : ℕ) → member w a p && member w b p ≡ false
unfolding disjoint
disjoint-members w a b e p = sym (member-and w a b p) ∙ ap (λ (s : ℕ). member w s p) (eqb-true (bit_and a b) 0 e) ∙ member-none w p

-- sets without a port in both are disjoint
pub members-disjoint : (w a b : ℕ) → a < 2 ^ w → b < 2 ^ w → ((p : ℕ) → member w a p && member w b p ≡ false) → disjoint a b ≡ true
unfolding disjoint
members-disjoint w a b h k e =
    eq-eqb (bit_and a b) 0 (members-same w (bit_and a b) 0 (and_lt w a b h k) (pow_pos w) (λ p. member-and w a b p ∙ e p ∙ sym (member-none w p)))

-- the empty set is one of ports 1 to n only
pub only_zero : (w n : ℕ) → only_to w n 0 ≡ true
unfolding only_to
only_zero w n = rw zero-mod

-- every set is disjoint from the empty set
pub disjoint-zero-r : (a : ℕ) → disjoint a 0 ≡ true
unfolding disjoint
disjoint-zero-r a = rw and_zero_r

-- the empty set is disjoint from every set
pub disjoint-zero-l : (a : ℕ) → disjoint 0 a ≡ true
unfolding disjoint
disjoint-zero-l a = refl

-- two sets are disjoint either way round
pub disjoint_comm : (a b : ℕ) → disjoint a b ≡ disjoint b a
unfolding disjoint
disjoint_comm a b = ap (λ (x : ℕ). eqb x 0) (and_comm a b)

-- the set of ports 1 to n is a set of w ports
pub ports-to-lt : (w n : ℕ) → ports_to w n < 2 ^ w
unfolding ports_to
ports-to-lt w n = pow-sub-lt w (pow_pos (w - n))

-- the set of ports 1 to n: n ones, and then zeros
ports-to-is : (w n : ℕ) → n ≤ w → ports_to w n ≡ (2 ^ n - 1) * 2 ^ (w - n)
unfolding ports_to
ports-to-is w n h =
    let e : w ≡ n + (w - n) = omega arith in
    ap (λ (k : ℕ). 2 ^ k - 2 ^ (w - n)) e ∙ high_ones n (w - n)

-- the set of ports 1 to n is one of ports 1 to n only
pub ports-to-only : (w n : ℕ) → n ≤ w → only_to w n (ports_to w n) ≡ true
unfolding only_to
ports-to-only w n h = rw (ports-to-is w n h, mul-mod_left)

-- ones, shifted down
ones_shr : (j k : ℕ) → (2 ^ (j + k) - 1) / 2 ^ k ≡ 2 ^ j - 1
ones_shr j k = ap (λ (x : ℕ). x / 2 ^ k) (ones_split j k) ∙ high (2 ^ j - 1) k (ones_lt k)

-- all ports less those above n are ports 1 to n
pub ports-to-less : (w n : ℕ) → n ≤ w → 2 ^ w - 1 - (2 ^ w - 1) / 2 ^ n ≡ ports_to w n
unfolding ports_to
ports-to-less w n h =
    let e : w ≡ (w - n) + n = omega arith in
    let d : (2 ^ w - 1) / 2 ^ n ≡ 2 ^ (w - n) - 1 = ap (λ (k : ℕ). (2 ^ k - 1) / 2 ^ n) e ∙ ones_shr (w - n) n in
    omega (arith, pow_pos (w - n))

-- a port is in the set of ports 1 to n where it is at most n
pub ports-to-member : (w n p : ℕ) → 1 ≤ p → p ≤ w → n ≤ w → member w (ports_to w n) p ≡ leb p n
ports-to-member w n p h l m =
    by_cases (dec_le p n) (λ k.
    let e₁ : w - p ≡ (w - n) + (n - p) = omega arith in
    let e₂ : n ≡ p + (n - p) = omega arith in
    let e₃ : p ≡ suc (p - 1) = omega arith in
    let d : ports_to w n / 2 ^ (w - p) ≡ 2 ^ p - 1 =
    ap₂ (λ (s j : ℕ). s / 2 ^ j) (ports-to-is w n m) e₁
    ∙ sym (shr-shr ((2 ^ n - 1) * 2 ^ (w - n)) (w - n) (n - p))
    ∙ ap (λ (x : ℕ). x / 2 ^ (n - p)) (shl-shr (2 ^ n - 1) (w - n) ∙ ap (λ (j : ℕ). 2 ^ j - 1) e₂)
    ∙ ones_shr p (n - p) in
    let q : 2 ^ p ≡ 2 ^ (p - 1) * 2 = ap (λ (j : ℕ). 2 ^ j) e₃ ∙ pow-suc 2 (p - 1) in
    let o : ports_to w n / 2 ^ (w - p) % 2 ≡ 1 = omega (arith, pow_pos (p - 1)) in
    member-in w (ports_to w n) p h l ∙ rw (o, le-leb p n k))
    (λ k. only-members w n (ports_to w n) (ports-to-only w n m) p (omega arith) ∙ sym (lt-leb p n (omega arith)))

members_step : (w s p : ℕ) → p ≤ w → members_to (suc w) s p ≡ members_to w (s / 2) p
unfolding members_to
members_step w s zero h = refl
members_step w s (suc p) h = rw (members_step w s p (omega arith), member-step w s (suc p) h)

-- how many ports are in a set is how many of its digits are 1
pub members-ones : (w s : ℕ) → s < 2 ^ w → members w s ≡ ones s
unfolding members_to
members-ones zero s h = unfold ones in rw (lt-one h)
members-ones (suc w) s h =
    let k : s < 2 ^ w * 2 = rw pow-suc at h in
    let m : members w (s / 2) ≡ ones (s / 2) = members-ones w (s / 2) (omega arith) in
    rw (members_step w s w (omega arith), m, member-last, digit-is (s % 2) (omega arith)) (omega (arith, ones_step s))

digit-xor : (x y : ℕ) → x < 2 → y < 2 → beq (eqb x 1) (eqb y 1) ≡ eqb (differ x y % 2) 0
digit-xor zero zero h k = refl
digit-xor zero (suc zero) h k = refl
digit-xor zero (suc (suc y)) h k = absurd (omega arith)
digit-xor (suc zero) zero h k = refl
digit-xor (suc zero) (suc zero) h k = refl
digit-xor (suc zero) (suc (suc y)) h k = absurd (omega arith)
digit-xor (suc (suc x)) y h k = absurd (omega arith)

-- whether a port is in both or neither, by the digit of the number that has a 1 where the sets differ
member-xor : (w a b p n : ℕ) → 1 ≤ p → p ≤ w → w - p ≡ n → beq (member w a p) (member w b p) ≡ eqb (bit_xor a b / 2 ^ n % 2) 0
member-xor w a b p n h k i =
    let x : ℕ = a / 2 ^ n in
    let y : ℕ = b / 2 ^ n in
    let e : bit_xor a b / 2 ^ n % 2 ≡ differ (x % 2) (y % 2) % 2 =
    ap (λ (z : ℕ). z % 2) (xor_shr a b n ∙ xor_step x y) ∙ mul-add-mod_self_right (bit_xor (x / 2) (y / 2)) 2 (differ (x % 2) (y % 2)) in
    ap₂ beq (member-in w a p h k) (member-in w b p h k)
    ∙ rw i (digit-xor (x % 2) (y % 2) (omega arith) (omega arith))
    ∙ ap (λ (z : ℕ). eqb z 0) (sym e)

beq-self : (t : Bool) → beq t t ≡ true
beq-self true = refl
beq-self false = refl

differs_none : (w a p n : ℕ) → differs_from w a a p n ≡ 0
unfolding differs_from
differs_none w a p zero = refl
differs_none w a p (suc n) = rw (beq-self (member w a p)) (differs_none w a (suc p) n)

-- no port is in one of two equal sets only
pub first-same : (w a : ℕ) → first_differing w a a ≡ 0
first-same w a = differs_none w a 1 w

differs-leading : (w a b n p : ℕ) → p + n ≡ suc w → 1 ≤ p → bit_xor a b < 2 ^ n → 0 < bit_xor a b → differs_from w a b p n ≡ count_leading_zeros w (bit_xor a b) + 1
unfolding differs_from
differs-leading w a b zero p i h l k = omega arith
differs-leading w a b (suc n) p i h l k =
    let x : ℕ = bit_xor a b in
    let t : beq (member w a p) (member w b p) ≡ eqb (x / 2 ^ n % 2) 0 = member-xor w a b p n h (omega arith) (omega arith) in
    let l₁ : x < 2 ^ n * 2 = rw pow-suc at l in
    by_cases (dec_lt x (2 ^ n))
    (λ m. rw (t, div-eq_of_lt m) (differs-leading w a b n (suc p) (omega arith) (omega arith) m k))
    (λ m.
    let d : x / 2 ^ n ≡ 1 = div-eq_of_lt-le (2 ^ n) {m = x} (omega arith) (omega arith) in
    let u : w - suc n ≡ count_leading_zeros w x = leading_unique w x (w - suc n) (suc n) (omega arith) l (rw pow-suc (omega arith)) in
    rw (t, d) (omega arith))

-- the first port that is in one of two sets only, by the leading zeros of the number that has a 1 where they differ
pub first-leading : (w a b : ℕ) → a < 2 ^ w → b < 2 ^ w → (a ≡ b → ⊥) → first_differing w a b ≡ count_leading_zeros w (bit_xor a b) + 1
first-leading w a b h k d =
    differs-leading w a b w 1 (omega arith) (omega arith) (xor_lt w a b h k) (pos_of_ne-zero (λ e. d (omega (arith, xor_add_and a b, and_le_l a b, and_le_r a b))))

pow-octets : (k : ℕ) → 256 ^ k ≡ 2 ^ (8 * k)
pow-octets zero = refl
pow-octets (suc k) = rw (pow-suc, pow-octets k, mul-suc 8 k, pow-add 2 (8 * k) 8)

take-be_octets : (m k v : ℕ) → take m (be_octets (m + k) v) ≡ be_octets m (v / 256 ^ k)
unfolding be_octets
take-be_octets m zero v = rw (add-zero, div-one) (take_all m (be_octets m v) (omega (arith, length-be_octets m v)))
take-be_octets m (suc k) v =
    rw add-suc
    (take-append-le m (be_octets (m + k) (v / 256)) (v % 256 ∷ []) (omega (arith, length-be_octets (m + k) (v / 256)))
    ∙ take-be_octets m k (v / 256)
    ∙ rw (pow-suc, mul_comm (256 ^ k) 256, div-div-eq-div-mul))

be_at-pad : (xs : List ℕ) (m k : ℕ) → length xs ≡ m → be_at xs 0 (m + k) ≡ be_at xs 0 m * 256 ^ k
unfolding be_at
be_at-pad xs m zero e = rw (add-zero, mul-one)
be_at-pad xs m (suc k) e =
    rw (add-suc, be_at-pad xs m k e, get_or-eq_default xs 0 {n = 0 + (m + k)} (omega arith), pow-suc, mul_assoc, add-zero)

-- the octets of a set, by its high digits
pub port-octets-is : (n s : ℕ) → n ≤ 64 → port_octets n s ≡ be_octets ((n + 7) / 8) (s / 2 ^ (64 - 8 * ((n + 7) / 8)))
unfolding port_octets
port-octets-is n s h =
    let m : ℕ = (n + 7) / 8 in
    let i : 8 ≡ m + (8 - m) = omega arith in
    let j : 8 * (8 - m) ≡ 64 - 8 * m = omega arith in
    ap (λ (w : ℕ). take m (be_octets w s)) i ∙ take-be_octets m (8 - m) s ∙ rw (pow-octets (8 - m), j)

-- how many octets a set of n ports has
pub length-port-octets : (n s : ℕ) → n ≤ 64 → length (port_octets n s) ≡ (n + 7) / 8
length-port-octets n s h = rw (port-octets-is n s h) (length-be_octets _ _)

-- zeros behind octets are as nothing behind them
zeros-behind : (xs zs : List ℕ) (i : ℕ) → ((j : ℕ) → get_or zs j 0 ≡ 0) → get_or (xs ++ zs) i 0 ≡ get_or xs i 0
zeros-behind [] zs i h = h i
zeros-behind (x ∷ xs) zs zero h = refl
zeros-behind (x ∷ xs) zs (suc i) h = zeros-behind xs zs i h

-- eight octets, these in front of zeros, are the set that these write
pub set-filled : (xs : List ℕ) (n : ℕ) → from_be_bytes w64 (xs ++ drop n (zeros 8)) ≡ set_of xs
unfolding be_at set_of
set-filled xs n =
    let z : List ℕ = drop n (zeros 8) in
    let all : from_be_bytes w64 (xs ++ z) ≡ be_at (xs ++ z) 0 8 = omega arith in
    all ∙ be_at-same (xs ++ z) xs 0 0 8 (λ i h. zeros-behind xs z (0 + i) (λ j. get_or-drop n (zeros 8) j 0 ∙ zeros-at 8 (n + j)))

-- what octets write is a set of 64 ports
pub set-lt : (xs : List ℕ) → Octets xs → set_of xs < 2 ^ 64
unfolding set_of
set-lt xs o = be_at-lt xs 0 8 o

octets-back : (w n v : ℕ) → n ≤ 8 * w → v < 2 ^ (8 * w) → only_to (8 * w) n v ≡ true → be_at (take ((n + 7) / 8) (be_octets w v)) 0 w ≡ v
unfolding only_to
octets-back w n v h l e =
    let m : ℕ = (n + 7) / 8 in
    let k : ℕ = w - m in
    let i : w ≡ m + k = omega arith in
    let j : 8 * w - n ≡ (8 * w - n - 8 * k) + 8 * k = omega arith in
    let q : ℕ = v / 256 ^ k in
    let b : v < 256 ^ m * 256 ^ k = rw (← pow-add, ← i, pow-octets) l in
    let z : v % 256 ^ k ≡ 0 = rw (pow-octets k, ← mod-mod-pow v (8 * w - n - 8 * k) (8 * k), ← j, eqb-true (v % 2 ^ (8 * w - n)) 0 e) (zero-mod (2 ^ (8 * k))) in
    ap (λ (x : ℕ). be_at (take m (be_octets x v)) 0 x) i
    ∙ ap (λ (xs : List ℕ). be_at xs 0 (m + k)) (take-be_octets m k v)
    ∙ be_at-pad (be_octets m q) m k (length-be_octets m q)
    ∙ ap (λ (x : ℕ). x * 256 ^ k) (be_at-be_octets m q ((div-lt_iff_lt-mul (one-le-pow k 256 (omega arith))).1 b))
    ∙ omega (arith, div-add-mod' v (256 ^ k))

-- what was written as octets is read back
pub set-octets : (n s : ℕ) → s < 2 ^ 64 → n ≤ 64 → only_to 64 n s ≡ true → set_of (port_octets n s) ≡ s
unfolding set_of port_octets
set-octets n s h l e = octets-back 8 n s l h e

-- a set of w ports has at most w
pub members-le : (w s : ℕ) → members w s ≤ w
unfolding members_to
members-le w s = go w
  where
    go : (p : ℕ) → members_to w s p ≤ p
    go zero = omega arith
    go (suc p) = omega (arith, go p, one-or-none (member w s (suc p)))

differs-lt : (w a b p n : ℕ) → 1 ≤ p → differs_from w a b p n < p + n
unfolding differs_from
differs-lt w a b p zero h = omega arith
differs-lt w a b p (suc n) h = go (beq (member w a p) (member w b p)) (differs-lt w a b (suc p) n (omega arith))
  where
    go : (t : Bool) → differs_from w a b (suc p) n < suc p + n → cond t (differs_from w a b (suc p) n) p < p + suc n
    go true i = omega arith
    go false i = omega arith

-- the first port that differs is one of the w
pub first-le : (w a b : ℕ) → first_differing w a b ≤ w
first-le w a b = omega (arith, differs-lt w a b 1 w (omega arith))

-- zeros behind the octets of a set change nothing
pub set-zeros : (us : List ℕ) (n : ℕ) → set_of (us ++ zeros n) ≡ set_of us
unfolding set_of
set-zeros us n =
    be_at-same (us ++ zeros n) us 0 0 8 (λ i l.
    by_cases (dec_lt (0 + i) (length us))
    (λ h. get_or-append us (zeros n) 0 (0 + i) h)
    (λ h.
    let e : 0 + i ≡ length us + (0 + i - length us) = omega arith in
    ap (λ (k : ℕ). get_or (us ++ zeros n) k 0) e
    ∙ get_or-append-add us (zeros n) (0 + i - length us) 0
    ∙ zeros-at n (0 + i - length us)
    ∙ sym (get_or-eq_default us 0 {n = 0 + i} (omega arith))))
