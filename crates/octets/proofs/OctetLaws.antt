-- Lists that are made of octets alone: one behind the other, parts of them, written numbers. Assumes nothing.
use Prim.Native.Nat.{ℕ, zero, suc, ◌+◌, ◌/◌, ◌%◌, ◌<◌}
use native.Mathlib.Omega.{arith}
use mathlib.Core.List.{List, [], ◌∷◌, ◌++◌}
use lib.ListN.{take, drop, replicate}
use lib.Seq.{get_or-drop}
use Rattle.octets.specs.Numbers.{be_octets}
use Rattle.octets.specs.Parts.{part}
use Rattle.octets.proofs.NumberLaws.{Octets}

pub octets-none : Octets []
octets-none i = omega arith

pub octets-cons : (x : ℕ) (xs : List ℕ) → x < 256 → Octets xs → Octets (x ∷ xs)
octets-cons x xs h o zero = h
octets-cons x xs h o (suc i) = o i

pub octets-one : (x : ℕ) → x < 256 → Octets (x ∷ [])
octets-one x h = octets-cons x [] h octets-none

pub octets-append : (xs ys : List ℕ) → Octets xs → Octets ys → Octets (xs ++ ys)
octets-append [] ys a b i = b i
octets-append (x ∷ xs) ys a b zero = a 0
octets-append (x ∷ xs) ys a b (suc i) = octets-append xs ys (λ j. a (suc j)) b i

pub octets-replicate : (n x : ℕ) → x < 256 → Octets (replicate n x)
octets-replicate zero x h i = omega arith
octets-replicate (suc n) x h zero = h
octets-replicate (suc n) x h (suc i) = octets-replicate n x h i

pub octets-take : (n : ℕ) (xs : List ℕ) → Octets xs → Octets (take n xs)
octets-take zero xs o i = omega arith
octets-take (suc n) [] o i = omega arith
octets-take (suc n) (x ∷ xs) o zero = o 0
octets-take (suc n) (x ∷ xs) o (suc i) = octets-take n xs (λ j. o (suc j)) i

pub octets-drop : (n : ℕ) (xs : List ℕ) → Octets xs → Octets (drop n xs)
octets-drop n xs o i = rw (get_or-drop n xs i 0) (o (n + i))

pub octets-part : (s : List ℕ) (p n : ℕ) → Octets s → Octets (part s p n)
octets-part s p n o = octets-take n (drop p s) (octets-drop p s o)

-- a number that is written
pub octets-be : (w v : ℕ) → Octets (be_octets w v)
unfolding be_octets
octets-be zero v = octets-none
octets-be (suc w) v = octets-append (be_octets w (v / 256)) (v % 256 ∷ []) (octets-be w (v / 256)) (octets-one (v % 256) (omega arith))
