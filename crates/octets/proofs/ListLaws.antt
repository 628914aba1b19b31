-- Laws of `specs/Lists.antt`, and of what a loop over a list has left. Assumes nothing.
use Prim.Native.Nat.{ℕ, zero, suc, ◌+◌, ◌≤◌, ◌<◌}
use native.Mathlib.Numerals.{add-one}
use native.Mathlib.Omega.{arith}
use mathlib.Core.Path.{◌≡◌}
use mathlib.Core.Bool.{Bool, true}
use mathlib.Core.List.{List, [], ◌∷◌}
use lib.ListN.{length, take, drop, get_or, length-take, drop_of_length-le}
use lib.Seq.{length-take-le, drop-cons, get_or-take}
use Rattle.octets.specs.Lists.{every}
use Rattle.octets.proofs.BoolLaws.{both}

-- a test of each element holds at every place, where it holds of what stands past the end
pub every_in : {A : Type 0} (t : A → Bool) (d : A) (xs : List A) (i : ℕ) → t d ≡ true → every t xs ≡ true → t (get_or xs i d) ≡ true
unfolding every
every_in t d [] i h e = h
every_in t d (x ∷ xs) zero h e = (both (t x) (every t xs) e).0
every_in t d (x ∷ xs) (suc i) h e = every_in t d xs i h (both (t x) (every t xs) e).1

-- ## What a loop over the first count elements has left at index i

-- past the last one there is nothing
pub left-none : {A : Type 0} (xs : List A) (count i : ℕ) → count ≤ i → drop i (take count xs) ≡ []
left-none xs count i h = drop_of_length-le (take count xs) {i = i} (omega (arith, length-take count xs))

-- before it there is the element at i, and what is left at the next index
pub left-turn : {A : Type 0} (d : A) (xs : List A) (count i : ℕ) → i < count → count ≤ length xs → drop i (take count xs) ≡ get_or xs i d ∷ drop (i + 1) (take count xs)
left-turn d xs count i h k =
    rw (add-one i, drop-cons (take count xs) i d (omega (arith, length-take-le count xs k)), get_or-take count xs i d h)
