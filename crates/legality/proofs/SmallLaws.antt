-- Two cells that are read as one number: whether both hold 0 to 7. Assumes nothing.
use mathlib.Core.Path.{◌≡◌, refl, sym, ap, ◌∙◌}
use mathlib.Core.Bool.{Bool, true, false, ◌&&◌, and_assoc}
use mathlib.Core.List.{List, [], ◌∷◌}
use Prim.Native.Nat.{ℕ, ◌+◌, ◌*◌, ◌/◌, ◌%◌, ◌^◌, ◌≤◌, ◌<◌}
use native.Mathlib.Omega.{arith}
use lib.Bits.{bit_and, and_block, and_high}
use lib.Dec.{eqb, leb}
use lib.ListN.{length, get_or, take, drop}
use borrow.Author.Tests.{leb-true, leb-false, eq-eqb, ne_eqb}
use Rattle.octets.specs.Numbers.{be_at}
use Rattle.octets.proofs.NumberLaws.{Octets, be_at-more, be_at-one, be_at-lt}
use Rattle.names.specs.Rule.{in_steps, in_frames}
use Rattle.names.proofs.RuleLaws.{step-one}
use Rattle.names.specs.declared.table.ObjectType.{ObjectType}
use Rattle.block.specs.Image.{content_of}
use Rattle.block.specs.Valid.{every}
use Rattle.block.specs.Tests.{is_small}
use Rattle.block.proofs.ReadLaws.{cell-is}
use Rattle.legality.proofs.LegalLaws.{every-turn}

-- the bits above 7 of four octets
abbrev high : ℕ
high = 4294967288

-- and of two times four octets
abbrev pub above_seven : ℕ
above_seven = 18446744043644780536

high-of : (v : ℕ) → v < 2 ^ 32 → bit_and v high ≡ v / 8 * 8
high-of v h = let e : bit_and v high ≡ v / 8 % 536870912 * 8 = and_high v 29 3 in omega (arith, e)

-- two numbers of four octets are 0 to 7 exactly where their number of eight octets has no bit above
both_small : (h l : ℕ) → h < 2 ^ 32 → l < 2 ^ 32 → eqb (bit_and (h * 4294967296 + l) above_seven) 0 ≡ (is_small h && is_small l)
both_small h l p q = go (leb h 7) (leb l 7) refl refl
  where
    x : ℕ
    x = bit_and (h * 4294967296 + l) above_seven

    sum : x ≡ h / 8 * 8 * 4294967296 + l / 8 * 8
    sum = let e : x ≡ bit_and h high * 4294967296 + bit_and l high = and_block 32 h high l high q (omega arith) in omega (arith, e, high-of h p, high-of l q)

    go : (s t : Bool) → leb h 7 ≡ s → leb l 7 ≡ t → eqb x 0 ≡ (s && t)
    go true true d e = eq-eqb x 0 (omega (arith, sum, leb-true h 7 d, leb-true l 7 e))
    go true false d e = ne_eqb x 0 (λ z. omega (arith, sum, leb-false l 7 e))
    go false t d e = ne_eqb x 0 (λ z. omega (arith, sum, leb-false h 7 d))

-- eight octets are two numbers of four
eight-of : (b : List ℕ) (p : ℕ) → be_at b p 8 ≡ be_at b p 4 * 4294967296 + be_at b (p + 4) 4
eight-of b p =
    omega (
      arith,
      be_at-more b p 4,
      be_at-more b p 5,
      be_at-more b p 6,
      be_at-more b p 7,
      be_at-one b (p + 4),
      be_at-more b (p + 4) 1,
      be_at-more b (p + 4) 2,
      be_at-more b (p + 4) 3,
      next 1,
      next 2,
      next 3,
    )
  where
    next : (i : ℕ) → get_or b (p + 4 + i) 0 ≡ get_or b (p + (4 + i)) 0
    next i = ap (λ (q : ℕ). get_or b q 0) (omega arith)

-- cell k and the next one
pub two_cells : (b : List ℕ) (k : ℕ) → Octets b → k + 2 ≤ 1541
    → eqb (bit_and (be_at b (32 + k * 4) 8) above_seven) 0 ≡ (is_small (get_or (content_of b).cells k 0) && is_small (get_or (content_of b).cells (k + 1) 0))
two_cells b k o h =
    let p : 32 + k * 4 + 4 ≡ 32 + (k + 1) * 4 = omega arith in
    rw (cell-is b k (omega arith), cell-is b (k + 1) (omega arith), eight-of b (32 + k * 4), p)
    (both_small (be_at b (32 + k * 4) 4) (be_at b (32 + (k + 1) * 4) 4) (be_at-lt b (32 + k * 4) 4 o) (be_at-lt b (32 + (k + 1) * 4) 4 o))

-- two turns of a test of each of m members from place k on
pub every_two : (t : ℕ → Bool) (xs : List ℕ) (k m i : ℕ) → k + m ≤ length xs → i + 2 ≤ m
    → every t (drop i (take m (drop k xs))) ≡ ((t (get_or xs (k + i) 0) && t (get_or xs (k + i + 1) 0)) && every t (drop (i + 2) (take m (drop k xs))))
every_two t xs k m i h l =
    let j : k + (i + 1) ≡ k + i + 1 = omega arith in
    let n : i + 1 + 1 ≡ i + 2 = omega arith in
    every-turn t xs k m i h (omega arith)
    ∙ ap (λ u. t (get_or xs (k + i) 0) && u) (every-turn t xs k m (i + 1) h (omega arith))
    ∙ rw (j, n) (sym (and_assoc (t (get_or xs (k + i) 0)) (t (get_or xs (k + i + 1) 0)) (every t (drop (i + 2) (take m (drop k xs))))))

-- a step of 1 leaves nothing to test
pub every-unstepped : (s : ℕ) → s ≡ 1 → (xs : List ℕ) → every (in_steps s) xs ≡ true
unfolding every
every-unstepped s e [] = refl
every-unstepped s e (x ∷ xs) = rw (e, step-one x) (every-unstepped s e xs)

-- an object that takes other numbers than the largest frames leaves nothing to test
pub every-unframed : (o : ObjectType) → o.frames ≡ false → (xs : List ℕ) → every (in_frames o) xs ≡ true
unfolding every
every-unframed o e [] = refl
every-unframed o e (x ∷ xs) = rw e (every-unframed o e xs)
