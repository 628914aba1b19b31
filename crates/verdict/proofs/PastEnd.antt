-- What is read past the end of a list of kept bindings, and a turn of a loop over one. Assumes nothing.
use Prim.Native.Nat.{ℕ, ◌+◌, ◌<◌}
use native.Mathlib.Numerals.{add-one}
use mathlib.Core.Path.{◌≡◌}
use mathlib.Core.List.{List, ◌∷◌}
use lib.ListN.{length, drop, get_or}
use lib.Seq.{drop-cons}
use Rattle.std.specs.Prelude.{Result, Ok}
use Rattle.verdict.specs.declared.judge.Kept.{Kept}

abbrev pub past_end : {E : Type 0} → Result Kept E
past_end = Ok (record { place = 0; len = 0; at = 0; key = 0; value = 0 })

pub kept_turn : {E : Type 0} (qs : List (Result Kept E)) (i : ℕ) → i < length qs → drop i qs ≡ get_or qs i past_end ∷ drop (i + 1) qs
kept_turn qs i h = rw add-one (drop-cons qs i past_end h)
