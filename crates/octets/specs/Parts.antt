-- Parts of a list of octets. Assumes nothing.
use Rattle.std.specs.Prelude.{ℕ, zero, suc, ◌+◌, Bool, true, false, ◌&&◌, List, [], ◌∷◌, ◌++◌, length, take, drop, get_or, replicate, eqb}

-- the n octets of b from index p
abbrev pub part : List ℕ → ℕ → ℕ → List ℕ
part b p n = take n (drop p b)

-- b with xs from index p on
unfoldable pub patch : List ℕ → ℕ → List ℕ → List ℕ
patch b p xs = take p b ++ xs ++ drop (p + length xs) b

-- n octets of 0
unfoldable pub zeros : ℕ → List ℕ
zeros n = replicate n 0

-- whether the n octets of b from index p are all 0
unfoldable pub zero_run : List ℕ → ℕ → ℕ → Bool
zero_run b p zero = true
zero_run b p (suc n) = eqb (get_or b p 0) 0 && zero_run b (p + 1) n

-- whether two lists of numbers are equal
unfoldable pub same : List ℕ → List ℕ → Bool
same [] [] = true
same [] (y ∷ ys) = false
same (x ∷ xs) [] = false
same (x ∷ xs) (y ∷ ys) = eqb x y && same xs ys
