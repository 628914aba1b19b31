-- Induction along a comparison, and laws of ascending names. Assumes nothing.
use Prim.Native.Nat.{ℕ, zero, suc}
use mathlib.Core.Logic.{◌⊎◌, inl, inr}
use mathlib.Core.Path.{◌≡◌, refl, sym, subst, ◌∙◌}
use mathlib.Core.List.{List, [], ◌∷◌}
use mathlib.Core.Bool.{Bool, true, false, cond, false≢true}
use lib.ListN.{length}
use lib.Dec.{leb}
use Rattle.std.specs.Prelude.{is_some, Result, Ok, Err}
use Rattle.names.specs.Order.{below, relation}
use Rattle.names.proofs.OrderLaws.{irrefl, trans}
use Rattle.message.specs.Request.{binding_at}
use Rattle.message.specs.declared.form.Refusal.{Refusal}
use Rattle.message.specs.declared.request.Bound.{Bound}
use Rattle.message.proofs.FormLaws.{clash}
use Rattle.walks.specs.Walk.{Item, item, name_of, Walk, item_before, item_then, not_ascending, walk_from}
use Rattle.walks.specs.Merge.{only_reference, only_device, differing, Merged, merged, listed, merge, contrast_of}
use Rattle.walks.specs.Theorems.{In, AllAbove, Ascending, names}
use Rattle.std.specs.declared.cmp.Ordering.{Ordering}
use Rattle.std.specs.declared.cmp.Ordering.TheVariants.{Less, Equal, Greater}
use Rattle.names.proofs.RelationLaws.{says}
use Rattle.walks.proofs.MergeLaws.{merge_none, merge-alone, merge-below, merge-same, merge-above}

-- what holds at each turn of a comparison holds of the whole
module _ (P : List Item → List Item → Merged → Type 0)
    (none : (ys : List Item) → P [] ys (merged [] [] ys))
    (alone : (x : Item) (xs : List Item) → P (x ∷ xs) [] (merged [] (x ∷ xs) []))
    (lower : (x : Item) (xs : List Item) (y : Item) (ys : List Item) → below x.name y.name ≡ true → P xs (y ∷ ys) (merge xs (y ∷ ys)) → P (x ∷ xs) (y ∷ ys) (listed (only_reference x) (merge xs (y ∷ ys))))
    (equal : (x : Item) (xs : List Item) (y : Item) (ys : List Item) → x.name ≡ y.name → is_some (contrast_of x y) ≡ false → P xs ys (merge xs ys) → P (x ∷ xs) (y ∷ ys) (merge xs ys))
    (other : (x : Item) (xs : List Item) (y : Item) (ys : List Item) → x.name ≡ y.name → is_some (contrast_of x y) ≡ true → P xs ys (merge xs ys) → P (x ∷ xs) (y ∷ ys) (listed (differing x y) (merge xs ys)))
    (higher : (x : Item) (xs : List Item) (y : Item) (ys : List Item) → below y.name x.name ≡ true → P (x ∷ xs) ys (merge (x ∷ xs) ys) → P (x ∷ xs) (y ∷ ys) (listed (only_device y) (merge (x ∷ xs) ys))) where
  module _ (x : Item) (xs : List Item) (y : Item) (ys : List Item) where
    on_same : relation x.name y.name ≡ Equal → P xs ys (merge xs ys) → P (x ∷ xs) (y ∷ ys) (merge (x ∷ xs) (y ∷ ys))
    on_same e g = go (is_some (contrast_of x y)) refl
      where
        go : (t : Bool) → is_some (contrast_of x y) ≡ t → P (x ∷ xs) (y ∷ ys) (merge (x ∷ xs) (y ∷ ys))
        go false z = subst (P (x ∷ xs) (y ∷ ys)) (sym (merge-same x xs y ys e ∙ rw z)) (equal x xs y ys (says x.name y.name e) z g)
        go true z = subst (P (x ∷ xs) (y ∷ ys)) (sym (merge-same x xs y ys e ∙ rw z)) (other x xs y ys (says x.name y.name e) z g)

    turn : (r : Ordering) → relation x.name y.name ≡ r → P xs (y ∷ ys) (merge xs (y ∷ ys)) → P xs ys (merge xs ys) → P (x ∷ xs) ys (merge (x ∷ xs) ys)
        → P (x ∷ xs) (y ∷ ys) (merge (x ∷ xs) (y ∷ ys))
    turn Less e f g h = subst (P (x ∷ xs) (y ∷ ys)) (sym (merge-below x xs y ys e)) (lower x xs y ys (says x.name y.name e) f)
    turn Equal e f g h = on_same e g
    turn Greater e f g h = subst (P (x ∷ xs) (y ∷ ys)) (sym (merge-above x xs y ys e)) (higher x xs y ys (says x.name y.name e) h)

  along-device : (x : Item) (xs : List Item) → ((ys : List Item) → P xs ys (merge xs ys)) → (ys : List Item) → P (x ∷ xs) ys (merge (x ∷ xs) ys)
  along-device x xs f [] = subst (P (x ∷ xs) []) (sym (merge-alone (x ∷ xs))) (alone x xs)
  along-device x xs f (y ∷ ys) = turn x xs y ys (relation x.name y.name) refl (f (y ∷ ys)) (f ys) (along-device x xs f ys)

  pub merge-induct : (xs ys : List Item) → P xs ys (merge xs ys)
  merge-induct [] ys = subst (P [] ys) (sym (merge_none ys)) (none ys)
  merge-induct (x ∷ xs) ys = along-device x xs (merge-induct xs) ys

-- no name is below itself
pub never-below : (n : List ℕ) → below n n ≡ true → ⊥
never-below n h = false≢true (sym (irrefl n) ∙ h)

pub above-trans : (a b : List ℕ) (ns : List (List ℕ)) → below a b ≡ true → AllAbove b ns → AllAbove a ns
above-trans a b [] h w = tt
above-trans a b (n ∷ ns) h w = (trans a b n h w.0, above-trans a b ns h w.1)

-- a name that is below the first of an ascending list is below all
pub above-all : (a b : List ℕ) (ns : List (List ℕ)) → below a b ≡ true → Ascending (b ∷ ns) → AllAbove a (b ∷ ns)
above-all a b ns h w = (h, above-trans a b ns h w.0)

pub above_in : (n : List ℕ) (ys : List Item) → AllAbove n (names ys) → (z : Item) → In z ys → below n z.name ≡ true
above_in n [] w z e = absurd e
above_in n (y ∷ ys) w z (inl e) = rw e w.0
above_in n (y ∷ ys) w z (inr i) = above_in n ys w.1 z i

-- a walk that is read ascends, from the name before it on
abbrev Up : List ℕ → List Item → Type 0
Up last xs = AllAbove last (names xs) × Ascending (names xs)

nothing-up : (last : List ℕ) (xs : List Item) → ◌≡◌ {A = Walk} (Ok []) (Ok xs) → Up last xs
nothing-up last xs e = let z : xs ≡ [] = cc in rw z (tt, tt)

item-up : (last : List ℕ) (x : Item) (w : Walk) (xs : List Item) → ((ys : List Item) → w ≡ Ok ys → Up x.name ys) → below last x.name ≡ true → item_before x w ≡ Ok xs → Up last xs
item-up last x (Err r) xs f h e = clash (cc)
item-up last x (Ok ys) xs f h e =
    let z : xs ≡ x ∷ ys = cc in
    let u : Up x.name ys = f ys refl in
    rw z (above-all last x.name (names ys) h u, u)

step-up : (s : List ℕ) (last : List ℕ) (at : ℕ) (k : Result Bound Refusal) (go : List ℕ → ℕ → Walk) (xs : List Item) → ((last' : List ℕ) (at' : ℕ) (ys : List Item) → go last' at' ≡ Ok ys → Up last' ys)
    → item_then s last at k go ≡ Ok xs → Up last xs
step-up s last at (Err r) go xs f e = clash (cc)
step-up s last at (Ok d) go xs f e = test (below last (name_of s d.binding)) refl e
  where
    test : (t : Bool) → below last (name_of s d.binding) ≡ t → cond t (item_before (item s at d.binding) (go (name_of s d.binding) d.next)) (Err not_ascending) ≡ Ok xs → Up last xs
    test true h q = item-up last (item s at d.binding) (go (name_of s d.binding) d.next) xs (f (name_of s d.binding) d.next) h q
    test false h q = clash (cc)

end-up : (t : Bool) (w : Walk) (last : List ℕ) (xs : List Item) → (w ≡ Ok xs → Up last xs) → cond t (Ok []) w ≡ Ok xs → Up last xs
end-up true w last xs f e = nothing-up last xs e
end-up false w last xs f e = f e

pub walk_up : (s : List ℕ) (left : ℕ) (last : List ℕ) (at : ℕ) (xs : List Item) → walk_from s left last at ≡ Ok xs → Up last xs
unfolding walk_from
walk_up s zero last at xs e = nothing-up last xs e
walk_up s (suc left) last at xs e =
    end-up (leb (length s) at) (item_then s last at (binding_at 3 s at) (walk_from s left)) last xs (step-up s last at (binding_at 3 s at) (walk_from s left) xs (walk_up s left)) e
