-- Laws of `specs/Merge.antt`: the comparison turn by turn, the list's octets and the totals. Assumes nothing.
use Prim.Native.Nat.{ℕ, ◌+◌, ◌*◌}
use mathlib.Core.Path.{◌≡◌, refl, sym, ap}
use mathlib.Core.List.{List, [], ◌∷◌, ◌++◌, append_assoc, append-nil}
use mathlib.Core.Bool.{Bool, true, false, cond, ◌&&◌}
use native.Mathlib.Omega.{arith}
use lib.ListN.{length, length-append}
use lib.Dec.{eqb}
use Rattle.std.specs.Prelude.{is_some, Some, None}
use Rattle.octets.specs.Parts.{same}
use Rattle.octets.specs.Ports.{set_of, members, first_differing}
use Rattle.octets.proofs.NumberLaws.{length-be_octets}
use Rattle.names.specs.Order.{relation}
use Rattle.walks.specs.Walk.{Item}
use Rattle.walks.specs.Contrast.{contrast, contrasted, port_contrast, plain_contrast, port_sets}
use Rattle.walks.specs.Merge.{Entry, only_reference, only_device, differing, Merged, merged, listed, listed_if, contrast_of, told, merge, merge_from, twenty, entry_octets, list_octets, kind_of, total}
use Rattle.std.specs.declared.cmp.Ordering.TheVariants.{Less, Equal, Greater}

-- entries before those of a comparison
abbrev pub appended : List Entry → Merged → Merged
appended es m = merged (es ++ m.entries) m.ours m.theirs

pub appended-twice : (es fs : List Entry) (m : Merged) → appended (es ++ fs) m ≡ appended es (appended fs m)
appended-twice es fs m = ap (λ (l : List Entry). merged l m.ours m.theirs) (append_assoc es fs m.entries)

-- one walk is used up
pub merge_none : (ys : List Item) → merge [] ys ≡ merged [] [] ys
unfolding merge
merge_none ys = refl

pub merge-alone : (xs : List Item) → merge xs [] ≡ merged [] xs []
unfolding merge merge_from
merge-alone [] = refl
merge-alone (x ∷ xs) = refl

-- the three turns
module _ (x : Item) (xs : List Item) (y : Item) (ys : List Item) where
  pub merge-below : relation x.name y.name ≡ Less → merge (x ∷ xs) (y ∷ ys) ≡ listed (only_reference x) (merge xs (y ∷ ys))
  unfolding merge merge_from
  merge-below e = rw e

  pub merge-same : relation x.name y.name ≡ Equal → merge (x ∷ xs) (y ∷ ys) ≡ listed_if x y (merge xs ys)
  unfolding merge merge_from
  merge-same e = rw e

  pub merge-above : relation x.name y.name ≡ Greater → merge (x ∷ xs) (y ∷ ys) ≡ listed (only_device y) (merge (x ∷ xs) ys)
  unfolding merge merge_from
  merge-above e = rw e

-- contents differ: by the sets for port sets, and else by tag and octets
abbrev pub differ_by : (ports sets plain : Bool) → Bool
differ_by ports sets plain = cond ports (cond sets false true) (cond plain false true)

pub differ-is : (name : List ℕ) (tag : ℕ) (us : List ℕ) (tag' : ℕ) (vs : List ℕ)
    → is_some (contrast name tag us tag' vs) ≡ differ_by (port_sets name tag us tag' vs) (eqb (set_of us) (set_of vs)) (eqb tag tag' && same us vs)
unfolding contrast port_contrast plain_contrast
differ-is name tag us tag' vs = go (port_sets name tag us tag' vs) (eqb (set_of us) (set_of vs)) (eqb tag tag' && same us vs)
  where
    go : (p q r : Bool)
        → is_some (cond p (cond q None (Some (contrasted (members 64 (set_of us)) (members 64 (set_of vs)) (first_differing 64 (set_of us) (set_of vs))))) (cond r None (Some (contrasted 0 0 0))))
        ≡ differ_by p q r
    go true true r = refl
    go true false r = refl
    go false q true = refl
    go false q false = refl

-- an entry has 20 octets
length-twenty : (k a b f r d : ℕ) → length (twenty k a b f r d) ≡ 20
length-twenty k a b f r d = simp length-append (omega (arith, length-be_octets 8 r, length-be_octets 8 d))

pub length-entry : (e : Entry) → length (entry_octets e) ≡ 20
unfolding entry_octets
length-entry (only_reference x) = length-twenty 1 0 0 0 x.at 0
length-entry (only_device y) = length-twenty 2 0 0 0 0 y.at
length-entry (differing x y) = let c = told (contrast_of x y) in length-twenty 3 c.ours c.theirs c.first x.at y.at

pub length-list : (es : List Entry) → length (list_octets es) ≡ 20 * length es
unfolding list_octets
length-list [] = refl
length-list (e ∷ es) = simp length-append (omega (arith, length-entry e, length-list es))

pub list-append : (es fs : List Entry) → list_octets (es ++ fs) ≡ list_octets es ++ list_octets fs
unfolding list_octets
list-append [] fs = refl
list-append (e ∷ es) fs = rw (list-append es fs) (sym (append_assoc (entry_octets e) (list_octets es) (list_octets fs)))

pub list-one : (e : Entry) → list_octets (e ∷ []) ≡ entry_octets e
unfolding list_octets
list-one e = append-nil (entry_octets e)

pub total-append : (k : ℕ) (es fs : List Entry) → total k (es ++ fs) ≡ total k es + total k fs
unfolding total
total-append k [] fs = omega arith
total-append k (e ∷ es) fs = omega (arith, total-append k es fs)

-- the totals add up to the number of entries
one-kind : (e : Entry) → cond (eqb (kind_of e) 1) 1 0 + cond (eqb (kind_of e) 2) 1 0 + cond (eqb (kind_of e) 3) 1 0 ≡ 1
one-kind (only_reference x) = refl
one-kind (only_device y) = refl
one-kind (differing x y) = refl

pub totals-add : (es : List Entry) → total 1 es + total 2 es + total 3 es ≡ length es
unfolding total
totals-add [] = refl
totals-add (e ∷ es) = omega (arith, one-kind e, totals-add es)
