-- Lists whose members each have something, and ascending lists. Assumes nothing.
use Rattle.std.specs.Prelude.{ℕ, ◌<◌, List, [], ◌∷◌}

-- every member of a list has this
abbrev pub All : {A : Type 0} → (A → Type 0) → List A → Type 0
All P [] = Unit
All P (x ∷ xs) = P x × All P xs

-- each of a list stands so to all that follow it
abbrev pub InOrder : {A : Type 0} → (A → A → Type 0) → List A → Type 0
InOrder R [] = Unit
InOrder R (x ∷ xs) = All (R x) xs × InOrder R xs

-- strictly ascending numbers
abbrev pub Rising : List ℕ → Type 0
Rising ks = InOrder (λ j k. j < k) ks
