-- How two names stand to each other, sub-id by sub-id, and what each answer says. Assumes nothing.
use mathlib.Core.Path.{◌≡◌, refl, sym, ap, ◌∙◌}
use mathlib.Core.Logic.{◌⊎◌, inl, inr}
use mathlib.Core.List.{List, [], ◌∷◌}
use mathlib.Core.Bool.{Bool, true, false, cond, false≢true}
use Prim.Native.Nat.{ℕ, ◌+◌, ◌*◌, ◌/◌, ◌≤◌, ◌<◌, min}
use native.Mathlib.Omega.{arith}
use lib.ListN.{length, drop}
use Rattle.octets.specs.Numbers.{be_at}
use Rattle.octets.proofs.BoolLaws.{tri}
use Rattle.names.specs.Order.{below, relation}
use Rattle.names.specs.SubIds.{subids}
use Rattle.names.proofs.SubIdLaws.{subids-step, subids-end}
use Rattle.names.proofs.OrderLaws.{below-lt, below_eq, below-nil, irrefl, asym, total}
use Rattle.std.specs.declared.cmp.Ordering.{Ordering}
use Rattle.std.specs.declared.cmp.Ordering.TheVariants.{Less, Equal, Greater}
use Rattle.std.specs.Ordering.{is_lt, is_ne, nat_cmp}
use Rattle.std.specs.Cmp.{nat_cmp_is}

-- the three answers, by the order of names
pub related-below : (a b : List ℕ) → below a b ≡ true → relation a b ≡ Less
unfolding relation
related-below a b h = rw h

pub related-above : (a b : List ℕ) → below b a ≡ true → relation a b ≡ Greater
unfolding relation
related-above a b h = rw (asym b a h, h)

pub related_same : (a : List ℕ) → relation a a ≡ Equal
unfolding relation
related_same a = rw (irrefl a)

-- what an answer says of two names
abbrev pub Says : Ordering → List ℕ → List ℕ → Type 0
Says Less a b = below a b ≡ true
Says Equal a b = a ≡ b
Says Greater a b = below b a ≡ true

pub relation-says : (a b : List ℕ) → Says (relation a b) a b
relation-says a b = go (total a b)
  where
    go : (below a b ≡ true) ⊎ ((a ≡ b) ⊎ (below b a ≡ true)) → Says (relation a b) a b
    go (inl h) = rw (related-below a b h) h
    go (inr (inl e)) = rw (← e, related_same a)
    go (inr (inr h)) = rw (related-above a b h) h

-- the same for an answer that is known
pub says : {r : Ordering} (a b : List ℕ) → relation a b ≡ r → Says r a b
says a b e = rw e at (relation-says a b)

-- whether the first name is below the second, by the answer
pub below-is : (a b : List ℕ) → below a b ≡ is_lt (relation a b)
unfolding relation
below-is a b = go (below a b) (below b a)
  where
    go : (t u : Bool) → t ≡ is_lt (cond t Less (cond u Greater Equal))
    go true u = refl
    go false true = refl
    go false false = refl

-- the first sub-ids decide where they differ, and else the rest
eq-step : (x y : ℕ) (xs ys : List ℕ) → x ≡ y → relation (x ∷ xs) (y ∷ ys) ≡ relation xs ys
unfolding relation
eq-step x y xs ys e = rw (below_eq x y xs ys e, below_eq y x ys xs (sym e))

-- how two first sub-ids stand
module _ (x y : ℕ) (xs ys : List ℕ) {o : Ordering} (e : o ≡ nat_cmp x y) where
  -- they differ, and decide
  first-decides : is_ne o ≡ true → relation (x ∷ xs) (y ∷ ys) ≡ o
  first-decides h = go (tri x y)
    where
      go : (x < y) ⊎ ((x ≡ y) ⊎ (y < x)) → relation (x ∷ xs) (y ∷ ys) ≡ o
      go (inl l) = related-below (x ∷ xs) (y ∷ ys) (below-lt x y xs ys l) ∙ nat_cmp_is x y Less l ∙ sym e
      go (inr (inl q)) = absurd (false≢true (ap is_ne (nat_cmp_is x y Equal q ∙ sym e) ∙ h))
      go (inr (inr g)) = related-above (x ∷ xs) (y ∷ ys) (below-lt y x ys xs g) ∙ nat_cmp_is x y Greater g ∙ sym e

  -- they do not, and the rest decides
  rest-decides : is_ne o ≡ false → relation (x ∷ xs) (y ∷ ys) ≡ relation xs ys
  rest-decides h = eq-step x y xs ys (go (tri x y))
    where
      go : (x < y) ⊎ ((x ≡ y) ⊎ (y < x)) → x ≡ y
      go (inl l) = absurd (false≢true (sym h ∙ sym (ap is_ne (nat_cmp_is x y Less l ∙ sym e))))
      go (inr (inl q)) = q
      go (inr (inr g)) = absurd (false≢true (sym h ∙ sym (ap is_ne (nat_cmp_is x y Greater g ∙ sym e))))

-- the turns of the loop of `relate`, over the octets s and t
module _ (s t : List ℕ) (i : ℕ) (h : 4 * i + 4 ≤ length s) (k : 4 * i + 4 ≤ length t) {x y : ℕ} {o : Ordering} (p : x ≡ be_at s (4 * i) 4)
    (q : y ≡ be_at t (4 * i) 4) (e : o ≡ nat_cmp x y) where
  pub turn_decides : is_ne o ≡ true → relation (subids (drop (4 * i) s)) (subids (drop (4 * i) t)) ≡ o
  turn_decides d = rw (subids-step s (4 * i) h, subids-step t (4 * i) k, ← p, ← q) (first-decides _ _ _ _ e d)

  pub turn_on : is_ne o ≡ false
      → relation (subids (drop (4 * i) s)) (subids (drop (4 * i) t)) ≡ relation (subids (drop (4 * (i + 1)) s)) (subids (drop (4 * (i + 1)) t))
  turn_on d =
      let f : 4 * (i + 1) ≡ 4 * i + 4 = omega arith in
      rw (f, subids-step s (4 * i) h, subids-step t (4 * i) k, ← p, ← q) (rest-decides _ _ _ _ e d)

-- one name or both are used up: how many sub-ids there are decides
pub turn-last : (s t : List ℕ) (i : ℕ) → i ≡ min (length s / 4) (length t / 4)
    → relation (subids (drop (4 * i) s)) (subids (drop (4 * i) t)) ≡ nat_cmp (length s / 4) (length t / 4)
turn-last s t i e = go (tri (length s / 4) (length t / 4))
  where
    go : (length s / 4 < length t / 4) ⊎ ((length s / 4 ≡ length t / 4) ⊎ (length t / 4 < length s / 4))
        → relation (subids (drop (4 * i) s)) (subids (drop (4 * i) t)) ≡ nat_cmp (length s / 4) (length t / 4)
    go (inl l) =
        rw (subids-end s (4 * i) (omega arith), subids-step t (4 * i) (omega arith))
        (related-below [] (be_at t (4 * i) 4 ∷ subids (drop (4 * i + 4) t)) (below-nil (be_at t (4 * i) 4) (subids (drop (4 * i + 4) t))) ∙ nat_cmp_is _ _ Less l)
    go (inr (inl q)) = rw (subids-end s (4 * i) (omega arith), subids-end t (4 * i) (omega arith)) (related_same [] ∙ nat_cmp_is _ _ Equal q)
    go (inr (inr g)) =
        rw (subids-step s (4 * i) (omega arith), subids-end t (4 * i) (omega arith))
        (related-above (be_at s (4 * i) 4 ∷ subids (drop (4 * i + 4) s)) [] (below-nil (be_at s (4 * i) 4) (subids (drop (4 * i + 4) s))) ∙ nat_cmp_is _ _ Greater g)
