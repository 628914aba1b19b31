-- Lists of cases: how many and where the cases are for which a test holds, and the list with these changed. Assumes nothing.
use mathlib.Core.Path.{◌≡◌, refl, ap}
use Prim.Native.Nat.{ℕ, suc, ◌<◌, ◌≤◌}
use native.Mathlib.Omega.{arith}
use mathlib.Core.Bool.{Bool, true, false, cond, ◌&&◌}
use mathlib.Core.List.{List, [], ◌∷◌, map}
use lib.Dec.{leb, ltb}
use lib.ListN.{length, get_or, set}
use borrow.Author.Tests.{ltb-true, leb-true, le-leb, eqb-true}
use Rattle.tally.specs.declared.RbCase.{RbCase}
use Rattle.tally.specs.Codes.{most_cases}
use Rattle.octets.specs.Lists.{every}
use Rattle.tally.specs.Run.{count_if, some_if, has_id, running, known, above, ascending, legal_cases, restated, changed}
use Rattle.tally.specs.Scan.{none}
use Rattle.octets.proofs.BoolLaws.{by_bool, left-of, right_of, and_both, not-both-ways}

-- where the first of them stands
unfoldable pub first_if : (RbCase → Bool) → List RbCase → ℕ
first_if p [] = 0
first_if p (c ∷ cs) = cond (p c) 0 (suc (first_if p cs))

module _ (p : RbCase → Bool) where
  pub count_none : (cs : List RbCase) → count_if p cs ≡ 0 → some_if p cs ≡ false
  unfolding count_if some_if
  count_none [] e = refl
  count_none (c ∷ cs) e = by_bool (p c) (λ t. absurd (omega (arith, rw t at e))) (λ t. rw t (count_none cs (rw t at e)))

  pub none-count : (cs : List RbCase) → some_if p cs ≡ false → count_if p cs ≡ 0
  unfolding count_if some_if
  none-count [] e = refl
  none-count (c ∷ cs) e = by_bool (p c) (λ t. not-both-ways refl (rw t at e)) (λ t. rw t (none-count cs (rw t at e)))

  pub first-within : (cs : List RbCase) → some_if p cs ≡ true → first_if p cs < length cs
  unfolding some_if first_if
  first-within [] e = not-both-ways e refl
  first-within (c ∷ cs) e =
      by_bool (p c) (λ t. rw t (omega arith)) (λ t. let r : first_if p cs < length cs = first-within cs (rw t at e) in rw t (omega arith))

  module _ (state : ℕ) where
    pub change-none : (cs : List RbCase) → some_if p cs ≡ false → map (changed p state) cs ≡ cs
    unfolding some_if
    change-none [] e = refl
    change-none (c ∷ cs) e = by_bool (p c) (λ t. not-both-ways refl (rw t at e)) (λ t. rw (t, change-none cs (rw t at e)))

    -- where there is one at most, changing all is changing the first
    pub change-first : (cs : List RbCase) → count_if p cs ≤ 1 → some_if p cs ≡ true → set cs (first_if p cs) (restated state (get_or cs (first_if p cs) none)) ≡ map (changed p state) cs
    unfolding count_if some_if first_if
    change-first [] h e = not-both-ways e refl
    change-first (c ∷ cs) h e =
        by_bool (p c) (λ t. let n : count_if p cs ≡ 0 = omega (arith, rw t at h) in rw (t, change-none cs (count_none cs n)))
        (λ t. rw t (ap (λ (l : List RbCase). c ∷ l) (change-first cs (rw t at h) (rw t at e))))

-- "ids strictly ascending": an id stands once at most
pub above-none : (k n : ℕ) (cs : List RbCase) → above n cs ≡ true → k ≤ n → count_if (has_id k) cs ≡ 0
unfolding above count_if
above-none k n [] e h = refl
above-none k n (c ∷ cs) e h =
    let l : n < c.id = ltb-true n c.id (left-of (ltb n c.id) (above c.id cs) e) in
    let r : count_if (has_id k) cs ≡ 0 = above-none k c.id cs (right_of (ltb n c.id) (above c.id cs) e) (omega arith) in
    by_bool (has_id k c) (λ t. let s : c.id ≡ k = eqb-true c.id k t in absurd (omega arith)) (λ t. rw t r)

pub above-once : (k n : ℕ) (cs : List RbCase) → above n cs ≡ true → count_if (has_id k) cs ≤ 1
unfolding above count_if
above-once k n [] e = omega arith
above-once k n (c ∷ cs) e =
    by_bool (has_id k c) (λ t. let s : c.id ≡ k = eqb-true c.id k t in let r : count_if (has_id k) cs ≡ 0 = above-none k c.id cs (right_of (ltb n c.id) (above c.id cs) e) (omega arith) in rw t (omega arith))
    (λ t. rw t (above-once k c.id cs (right_of (ltb n c.id) (above c.id cs) e)))

pub ascending-once : (k : ℕ) (cs : List RbCase) → ascending cs ≡ true → count_if (has_id k) cs ≤ 1
unfolding ascending count_if
ascending-once k [] e = omega arith
ascending-once k (c ∷ cs) e =
    by_bool (has_id k c) (λ t. let s : c.id ≡ k = eqb-true c.id k t in let r : count_if (has_id k) cs ≡ 0 = above-none k c.id cs e (omega arith) in rw t (omega arith))
    (λ t. rw t (above-once k c.id cs e))

-- ---- the parts of a legal list
pub record Legal (cs : List RbCase) : Type 0 where
  pub short : length cs ≤ most_cases
  pub order : ascending cs ≡ true
  pub knows : every known cs ≡ true
  pub single : count_if running cs ≤ 1

pub legal-parts : (cs : List RbCase) → legal_cases cs ≡ true → Legal cs
unfolding legal_cases
legal-parts cs e =
    let l = left-of (leb (length cs) most_cases && ascending cs) (every known cs && leb (count_if running cs) 1) e in
    let r = right_of (leb (length cs) most_cases && ascending cs) (every known cs && leb (count_if running cs) 1) e in
    record {
      short = leb-true (length cs) most_cases (left-of (leb (length cs) most_cases) (ascending cs) l);
      order = right_of (leb (length cs) most_cases) (ascending cs) l;
      knows = left-of (every known cs) (leb (count_if running cs) 1) r;
      single = leb-true (count_if running cs) 1 (right_of (every known cs) (leb (count_if running cs) 1) r);
    }

pub parts-legal : (cs : List RbCase) → Legal cs → legal_cases cs ≡ true
unfolding legal_cases
parts-legal cs l =
    and_both (leb (length cs) most_cases && ascending cs) (every known cs && leb (count_if running cs) 1) (and_both (leb (length cs) most_cases) (ascending cs) (le-leb (length cs) most_cases l.short) l.order)
    (and_both (every known cs) (leb (count_if running cs) 1) l.knows (le-leb (count_if running cs) 1 l.single))
