-- Two walks compared (request E11): "list the instances found on one side only and those whose contents differ, ascending", until one walk is used up.
-- Assumes nothing.
use Rattle.std.specs.Prelude.{ℕ, ◌+◌, List, [], ◌∷◌, ◌++◌, cond, eqb, Option, Some, None, is_some}
use Rattle.octets.specs.Numbers.{be_octets}
use Rattle.names.specs.Order.{relation}
use Rattle.std.specs.declared.cmp.Ordering.{Ordering}
use Rattle.std.specs.declared.cmp.Ordering.TheVariants.{Less, Equal, Greater}
use Rattle.walks.specs.Walk.{Item}
use Rattle.walks.specs.Contrast.{contrasted, contrast}
use Rattle.walks.specs.declared.contrast.Contrast.{Contrast}

-- an instance that is listed
pub data Entry : Type 0 where
  only_reference : Item → Entry
  only_device : Item → Entry
  differing : Item → Item → Entry

-- what is listed, and what is left of each walk where the comparison stops
pub record Merged : Type 0 where
  pub entries : List Entry
  pub ours : List Item
  pub theirs : List Item

abbrev pub merged : List Entry → List Item → List Item → Merged
merged es xs ys = record { entries = es; ours = xs; theirs = ys }

abbrev pub listed : Entry → Merged → Merged
listed e m = merged (e ∷ m.entries) m.ours m.theirs

abbrev pub contrast_of : Item → Item → Option Contrast
contrast_of x y = contrast x.name x.tag x.content y.tag y.content

-- one instance on both sides: it is listed where its contents differ
abbrev pub listed_if : Item → Item → Merged → Merged
listed_if x y m = cond (is_some (contrast_of x y)) (listed (differing x y) m) m

-- by how one name stands to another
abbrev pub by_relation : {A : Type 0} → Ordering → (below same above : A) → A
by_relation Less a b c = a
by_relation Equal a b c = b
by_relation Greater a b c = c

-- the reference's walk is x and what follows it, whose comparison with a walk of the device is `rest`
unfoldable pub merge_from : Item → List Item → (List Item → Merged) → List Item → Merged
merge_from x xs rest [] = merged [] (x ∷ xs) []
merge_from x xs rest (y ∷ ys) =
    by_relation (relation x.name y.name)
    (listed (only_reference x) (rest (y ∷ ys)))
    (listed_if x y (rest ys))
    (listed (only_device y) (merge_from x xs rest ys))

-- "The comparison stops when one walk is used up: the tail is not listed"
unfoldable pub merge : (reference device : List Item) → Merged
merge [] ys = merged [] [] ys
merge (x ∷ xs) ys = merge_from x xs (merge xs) ys

-- an entry of the list, 20 octets: kind; for port sets the members of the reference's and of the device's and the first port that differs; the offset of
-- the binding in the reference walk and in the device walk, 0 where it is not in that walk
abbrev pub twenty : (kind ours theirs first reference device : ℕ) → List ℕ
twenty kind ours theirs first reference device = kind ∷ ours ∷ theirs ∷ first ∷ (be_octets 8 reference ++ be_octets 8 device)

-- what is told of two contents: zeros where no port sets differ
abbrev pub told : Option Contrast → Contrast
told None = contrasted 0 0 0
told (Some c) = c

-- kind 3, where contents differ
abbrev pub both_octets : Contrast → (reference device : ℕ) → List ℕ
both_octets c reference device = twenty 3 c.ours c.theirs c.first reference device

unfoldable pub entry_octets : Entry → List ℕ
entry_octets (only_reference x) = twenty 1 0 0 0 x.at 0
entry_octets (only_device y) = twenty 2 0 0 0 0 y.at
entry_octets (differing x y) = both_octets (told (contrast_of x y)) x.at y.at

unfoldable pub list_octets : List Entry → List ℕ
list_octets [] = []
list_octets (e ∷ es) = entry_octets e ++ list_octets es

-- "The totals per kind (reference only, switch only, differing)"
abbrev pub kind_of : Entry → ℕ
kind_of (only_reference x) = 1
kind_of (only_device y) = 2
kind_of (differing x y) = 3

unfoldable pub total : ℕ → List Entry → ℕ
total k [] = 0
total k (e ∷ es) = cond (eqb (kind_of e) k) 1 0 + total k es
