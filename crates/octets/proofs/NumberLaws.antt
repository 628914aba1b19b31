-- Laws of `specs/Numbers.antt`, over the width: what was written is read back, and what was read is written back. Assumes nothing.
use mathlib.Core.Path.{◌≡◌, refl, sym, ap, ap₂, ◌∙◌}
use mathlib.Core.List.{List, [], ◌∷◌, ◌++◌}
use Prim.Native.Nat.{ℕ, zero, suc, ◌+◌, ◌-◌, ◌*◌, ◌/◌, ◌%◌, ◌^◌, ◌≤◌, ◌<◌}
use native.Mathlib.Nat.{add-zero, pow-suc, pow-le-pow_right, lt_of_lt_of_le, not-suc-le-zero, div-lt_iff_lt-mul, div-add-mod'}
use native.Mathlib.Numerals.{add-one, sub-one}
use native.Mathlib.Omega.{arith}
use lib.ListN.{length, take, drop, get_or, set, length-set, length-append, length-drop, get_or-append}
use lib.Seq.{take-suc, get_or-drop, get_or-append-add, get_or-append_seam}
use lib.Arith.{digits_div, digits_mod}
use lib.Dec.{lit<}
use Rattle.octets.specs.Numbers.{be_at, be_octets}
use Rattle.octets.specs.Parts.{patch}
use Rattle.octets.proofs.PartLaws.{patch-snoc, patch-none, get_d-patch-in}

-- one octet more, while there is room in eight
pub room : (i acc x : ℕ) → acc < 256 ^ i → x < 256 → acc * 256 + x < 256 ^ (i + 1)
room i acc x h k = rw (add-one, pow-suc) (omega arith)

pub room8 : (i y : ℕ) → i < 8 → y < 256 ^ (i + 1) → y < 2 ^ 64
room8 i y h k = lt_of_lt_of_le k (pow-le-pow_right {n = 256} (lit< tt) {j = 8} (omega arith))

pub be_at-more : (b : List ℕ) (p i : ℕ) → be_at b p (i + 1) ≡ be_at b p i * 256 + get_or b (p + i) 0
unfolding be_at
be_at-more b p i = rw add-one

-- the stores of the w octets of v from index p, the last first: how the loop of `put` goes
unfoldable pub put_at : List ℕ → ℕ → ℕ → ℕ → List ℕ
put_at b p zero v = b
put_at b p (suc w) v = put_at (set b (p + w) (v % 256)) p w (v / 256)

-- a number of one octet is that octet
pub be_at-one : (b : List ℕ) (p : ℕ) → be_at b p 1 ≡ get_or b p 0
unfolding be_at
be_at-one b p = rw (add-zero p) (omega arith)

-- a turn of `put`
pub put_at-turn : (b : List ℕ) (p i v : ℕ) → 0 < i → put_at b p i v ≡ put_at (set b (p + (i - 1)) (v % 256)) p (i - 1) (v / 256)
unfolding put_at
put_at-turn b p zero v h = absurd (not-suc-le-zero h)
put_at-turn b p (suc j) v h = rw sub-one

pub length-be_octets : (w v : ℕ) → length (be_octets w v) ≡ w
unfolding be_octets
length-be_octets zero v = refl
length-be_octets (suc w) v = length-append (be_octets w (v / 256)) (v % 256 ∷ []) ∙ (rw (length-be_octets w (v / 256), add-one))

-- the stores are one patch
pub put_at-patch : (b : List ℕ) (p w v : ℕ) → p + w ≤ length b → put_at b p w v ≡ patch b p (be_octets w v)
unfolding put_at be_octets
put_at-patch b p zero v h = patch-none b p
put_at-patch b p (suc w) v h =
    let e : length (be_octets w (v / 256)) ≡ w = length-be_octets w (v / 256) in
    put_at-patch (set b (p + w) (v % 256)) p w (v / 256) (rw length-set (omega arith))
    ∙ ap (λ (k : ℕ). patch (set b (p + k) (v % 256)) p (be_octets w (v / 256))) (sym e)
    ∙ patch-snoc b p (be_octets w (v / 256)) (v % 256) (omega arith)

-- every element is an octet
abbrev pub Octets : List ℕ → Type 0
Octets b = (i : ℕ) → get_or b i 0 < 256

-- a number depends on its octets alone
pub be_at-same : (b b' : List ℕ) (p p' w : ℕ) → ((i : ℕ) → i < w → get_or b (p + i) 0 ≡ get_or b' (p' + i) 0) → be_at b p w ≡ be_at b' p' w
unfolding be_at
be_at-same b b' p p' zero h = refl
be_at-same b b' p p' (suc w) h =
    ap₂ (λ (m n : ℕ). m * 256 + n) (be_at-same b b' p p' w (λ i l. h i (omega arith))) (h w (omega arith))

pub be_at-left : (x y : List ℕ) (p w : ℕ) → p + w ≤ length x → be_at (x ++ y) p w ≡ be_at x p w
be_at-left x y p w h = be_at-same (x ++ y) x p p w (λ i l. get_or-append x y 0 (p + i) (omega arith))

pub be_at-right : (x y : List ℕ) (n p w : ℕ) → length x ≡ n → be_at (x ++ y) (n + p) w ≡ be_at y p w
be_at-right x y n p w e =
    be_at-same (x ++ y) y (n + p) p w (λ i l.
    let q : n + p + i ≡ length x + (p + i) = omega arith in
    ap (λ (k : ℕ). get_or (x ++ y) k 0) q ∙ get_or-append-add x y (p + i) 0)

pub be_at-be_octets : (w v : ℕ) → v < 256 ^ w → be_at (be_octets w v) 0 w ≡ v
unfolding be_at be_octets
be_at-be_octets zero v h = omega arith
be_at-be_octets (suc w) v h =
    let d : List ℕ = be_octets w (v / 256) in
    let l : length d ≡ w = length-be_octets w (v / 256) in
    let q : 0 + w ≡ length d = omega arith in
    let k : v < 256 ^ w * 256 = rw pow-suc at h in
    let m : be_at (d ++ (v % 256 ∷ [])) 0 w ≡ v / 256 =
    be_at-left d (v % 256 ∷ []) 0 w (omega arith) ∙ be_at-be_octets w (v / 256) ((div-lt_iff_lt-mul {k = 256} (lit< tt)).1 k) in
    let n : get_or (d ++ (v % 256 ∷ [])) (0 + w) 0 ≡ v % 256 =
    ap (λ (j : ℕ). get_or (d ++ (v % 256 ∷ [])) j 0) q ∙ get_or-append_seam d (v % 256) [] 0 in
    ap₂ (λ (x y : ℕ). x * 256 + y) m n ∙ div-add-mod' v 256

pub be_octets-be_at : (b : List ℕ) (p w : ℕ) → Octets b → p + w ≤ length b → be_octets w (be_at b p w) ≡ take w (drop p b)
unfolding be_at be_octets
be_octets-be_at b p zero o h = refl
be_octets-be_at b p (suc w) o h =
    let x : ℕ = get_or b (p + w) 0 in
    ap₂ (λ (m n : ℕ). be_octets w m ++ (n ∷ [])) (digits_div (be_at b p w) {m = 256} (o (p + w))) (digits_mod (be_at b p w) {m = 256} (o (p + w)))
    ∙ ap₂ (λ (u : List ℕ) (n : ℕ). u ++ (n ∷ [])) (be_octets-be_at b p w o (omega arith)) (sym (get_or-drop p b w 0))
    ∙ sym (take-suc (drop p b) w 0 (rw length-drop (omega arith)))

pub be_at-lt : (b : List ℕ) (p w : ℕ) → Octets b → be_at b p w < 256 ^ w
unfolding be_at
be_at-lt b p zero o = omega arith
be_at-lt b p (suc w) o = rw pow-suc (omega (arith, be_at-lt b p w o, o (p + w)))

-- reading back what was written
pub be_at-patch : (b : List ℕ) (p w v : ℕ) → p + w ≤ length b → v < 256 ^ w → be_at (patch b p (be_octets w v)) p w ≡ v
be_at-patch b p w v h k =
    let l : length (be_octets w v) ≡ w = length-be_octets w v in
    be_at-same (patch b p (be_octets w v)) (be_octets w v) p 0 w (λ i j.
    let e : 0 + i ≡ i = omega arith in
    get_d-patch-in b p (be_octets w v) i (omega arith) (omega arith) ∙ ap (λ (m : ℕ). get_or (be_octets w v) m 0) (sym e))
    ∙ be_at-be_octets w v k

-- a number that stands in a list
pub be_at-in : (x z : List ℕ) (p w v : ℕ) → length x ≡ p → v < 256 ^ w → be_at (x ++ (be_octets w v ++ z)) p w ≡ v
be_at-in x z p w v e h =
    ap (λ (k : ℕ). be_at (x ++ (be_octets w v ++ z)) k w) (sym (add-zero p))
    ∙ be_at-right x (be_octets w v ++ z) p 0 w e
    ∙ be_at-left (be_octets w v) z 0 w (omega (arith, length-be_octets w v))
    ∙ be_at-be_octets w v h
