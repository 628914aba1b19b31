-- Which numbers an object takes: its range (paper 01, "The objects"), in the newer edition its steps (E4), and for a largest frame the 64 of E12. Assumes nothing.
use Rattle.std.specs.Prelude.{ℕ, ◌%◌, Bool, false, cond, not, ◌&&◌, ◌||◌, List, [], ◌∷◌, eqb, leb}
use Rattle.names.specs.declared.table.ObjectType.{ObjectType}

-- "an edition, 1 old or 2 new"
abbrev pub old_edition : ℕ
old_edition = 1

abbrev pub new_edition : ℕ
new_edition = 2

abbrev pub is_edition : ℕ → Bool
is_edition e = eqb e old_edition || eqb e new_edition

-- "Older models keep the old ranges"
abbrev pub step_in : ℕ → ObjectType → ℕ
step_in e o = cond (eqb e new_edition) o.step 1

-- "each value is in its range": the range of the object table
abbrev pub in_range : ObjectType → ℕ → Bool
in_range o v = leb o.low v && leb v o.high

abbrev pub in_steps : ℕ → ℕ → Bool
in_steps s v = eqb (v % s) 0

-- document 004, dot1dSrPortLargestFrame: "64 valid values are defined"
abbrev pub largest_frames : List ℕ
largest_frames =
    516 ∷ 635 ∷ 754 ∷ 873 ∷ 993 ∷ 1112 ∷ 1231 ∷ 1350 ∷ 1470 ∷ 1542 ∷ 1615 ∷ 1688 ∷ 1761 ∷ 1833 ∷ 1906 ∷ 1979
    ∷ 2052 ∷ 2345 ∷ 2638 ∷ 2932 ∷ 3225 ∷ 3518 ∷ 3812 ∷ 4105 ∷ 4399 ∷ 4865 ∷ 5331 ∷ 5798 ∷ 6264 ∷ 6730 ∷ 7197 ∷ 7663
    ∷ 8130 ∷ 8539 ∷ 8949 ∷ 9358 ∷ 9768 ∷ 10178 ∷ 10587 ∷ 10997 ∷ 11407 ∷ 12199 ∷ 12992 ∷ 13785 ∷ 14578 ∷ 15370 ∷ 16163 ∷ 16956
    ∷ 17749 ∷ 20730 ∷ 23711 ∷ 26693 ∷ 29674 ∷ 32655 ∷ 35637 ∷ 38618 ∷ 41600 ∷ 44591 ∷ 47583 ∷ 50575 ∷ 53567 ∷ 56559 ∷ 59551 ∷ 65535 ∷ []

-- a number is one of a list
abbrev pub is_one_of : ℕ → List ℕ → Bool
is_one_of v [] = false
is_one_of v (x ∷ xs) = eqb v x || is_one_of v xs

-- "the 64 legal largest frames stand in a table there; another number is wrongValue" (E12)
unfoldable pub is_frame : ℕ → Bool
is_frame v = is_one_of v largest_frames

abbrev pub in_frames : ObjectType → ℕ → Bool
in_frames o v = not o.frames || is_frame v

-- "in steps of": the rule of an object's values in an edition
abbrev pub takes : ℕ → ObjectType → ℕ → Bool
takes e o v = in_range o v && (in_steps (step_in e o) v && in_frames o v)
