-- What two messages name in common, and the keys that a batch names in a table. Assumes nothing.
use Prim.Native.Nat.{ℕ}
use mathlib.Core.Path.{◌≡◌, refl, sym, ap, ◌∙◌}
use mathlib.Core.Bool.{Bool, true, false, ◌||◌, true≢false, false≢true}
use mathlib.Core.Option.{Option, none, some}
use mathlib.Core.List.{List, [], ◌∷◌, ◌++◌, map}
use lib.Dec.{eqb}
use borrow.Author.Tests.{eqb-true, eq-eqb}
use Rattle.octets.proofs.BoolLaws.{by_bool, both}
use Rattle.names.specs.declared.model.Model.{Model}
use Rattle.answer.specs.Get.{elem}
use Rattle.answer.specs.Tables.{first_column}
use Rattle.answer.specs.Judge.{Judged, group_named}
use Rattle.block.specs.declared.tables.Table.{Table}
use Rattle.answer.specs.Terms.{onto, indices, Separate, named_in, asked_of, named_by}
use Rattle.answer.proofs.RoomLaws.{or_right}
use Rattle.answer.proofs.JudgeLaws.{judged-groups}
use Rattle.batch.specs.Names.{Group, groups_of, same_group, among, common, keys_at}

or_cases : {C : Type 0} (a b : Bool) → (a || b) ≡ true → (a ≡ true → C) → (b ≡ true → C) → C
or_cases true b e f g = f refl
or_cases false b e f g = g e

-- one row or scalar
same-is : (g : Group) (o : Option Group) → same_group (some g) o ≡ true → o ≡ some g
same-is g none e = absurd (false≢true e)
same-is g (some h) e =
    let q = both (eqb g.0 h.0) (eqb g.1 h.1) e in
    let a : g.0 ≡ h.0 = eqb-true g.0 h.0 q.0 in
    let b : g.1 ≡ h.1 = eqb-true g.1 h.1 q.1 in
    λ i. some (sym a i, sym b i)

pub same_self : (g : Group) → same_group (some g) (some g) ≡ true
same_self g = rw (eq-eqb g.0 g.0 refl, eq-eqb g.1 g.1 refl)

-- two messages name something in common exactly where some row or scalar is named by both
pub common-of : (g : Group) (gs hs : List (Option Group)) → among (some g) gs ≡ true → among (some g) hs ≡ true → common gs hs ≡ true
unfolding among common
common-of g [] hs p q = absurd (false≢true p)
common-of g (x ∷ gs) hs p q =
    or_cases (same_group (some g) x) (among (some g) gs) p
    (λ e. ap (λ (y : Option Group). among y hs || common gs hs) (same-is g x e) ∙ rw q)
    (λ e. or_right (among x hs) (common gs hs) (common-of g gs hs e q))

pub record Both (gs hs : List (Option Group)) : Type 0 where
  pub group : Group
  pub left : among (some group) gs ≡ true
  pub right : among (some group) hs ≡ true

pub among_none : (hs : List (Option Group)) → among none hs ≡ false
unfolding among
among_none [] = refl
among_none (h ∷ hs) = among_none hs

among-some : (x : Option Group) (gs hs : List (Option Group)) → among x hs ≡ true → Both (x ∷ gs) hs
unfolding among
among-some none gs hs e = absurd (false≢true (sym (among_none hs) ∙ e))
among-some (some g) gs hs e = record { group = g; left = rw (eq-eqb g.0 g.0 refl, eq-eqb g.1 g.1 refl); right = e }

pub common-gives : (gs hs : List (Option Group)) → common gs hs ≡ true → Both gs hs
unfolding common among
common-gives [] hs e = absurd (false≢true e)
common-gives (x ∷ gs) hs e =
    or_cases (among x hs) (common gs hs) e (λ p. among-some x gs hs p)
    (λ p.
    let t : Both gs hs = common-gives gs hs p in
    record { group = t.group; left = or_right (same_group (some t.group) x) (among (some t.group) gs) t.left; right = t.right })

-- what a message names, by the bindings that are judged
pub groups-judged : (d : Model) (m : List ℕ) → groups_of d m ≡ map group_named (named_by d m)
unfolding groups_of
groups-judged d m = sym (judged-groups d [] (asked_of m))

-- a key that a message names is among what it names
named_here : (t k : ℕ) (r : Option Group) (ks : List ℕ) (gs : List (Option Group)) → (elem k ks ≡ true → among (some (t, k)) gs ≡ true)
    → elem k (onto t r ks) ≡ true → among (some (t, k)) (r ∷ gs) ≡ true
unfolding among elem
named_here t k none ks gs h e = h e
named_here t k (some r) ks gs h e =
    by_bool (eqb t r.0)
    (λ p. or_cases (eqb k r.1) (elem k ks) (rw p at e)
    (λ q.
    let a : t ≡ r.0 = eqb-true t r.0 p in
    let b : k ≡ r.1 = eqb-true k r.1 q in
    rw (eq-eqb t r.0 a, eq-eqb k r.1 b))
    (λ q. or_right (same_group (some (t, k)) (some r)) (among (some (t, k)) gs) (h q)))
    (λ p. or_right (same_group (some (t, k)) (some r)) (among (some (t, k)) gs) (h (rw p at e)))

indices-among : (t k : ℕ) (m : List Judged) → elem k (indices t m) ≡ true → among (some (t, k)) (map group_named m) ≡ true
unfolding indices elem
indices-among t k [] e = absurd (false≢true e)
indices-among t k (b ∷ m) e =
    named_here t k (group_named b) (indices t m) (map group_named m) (indices-among t k m) e

-- two messages that name nothing in common are separate, in demand 3's terms
pub separate-of : (d : Model) (a b : List ℕ) → common (groups_of d a) (groups_of d b) ≡ false → Separate (named_by d a) (named_by d b)
separate-of d a b e t j p =
    by_bool (elem j (indices t (named_by d b)))
    (λ q.
    absurd (true≢false
    (sym (common-of (t, j) (groups_of d a) (groups_of d b)
    (ap (among (some (t, j))) (groups-judged d a) ∙ indices-among t j (named_by d a) p)
    (ap (among (some (t, j))) (groups-judged d b) ∙ indices-among t j (named_by d b) q))
    ∙ e)))
    (λ q. q)

keys-groups : (t : ℕ) (m : List Judged) → keys_at t (map group_named m) ≡ indices t m
unfolding keys_at indices
keys-groups t [] = refl
keys-groups t (b ∷ m) = ap (onto t (group_named b)) (keys-groups t m)

pub keys-named : (d : Model) (t : Table) (m : List ℕ) → keys_at (first_column t) (groups_of d m) ≡ named_in t (named_by d m)
keys-named d t m = ap (keys_at (first_column t)) (groups-judged d m) ∙ keys-groups (first_column t) (named_by d m)

pub keys-append : (t : ℕ) (gs hs : List (Option Group)) → keys_at t (gs ++ hs) ≡ keys_at t gs ++ keys_at t hs
unfolding keys_at
keys-append t [] hs = refl
keys-append t (g ∷ gs) hs = ap (onto t g) (keys-append t gs hs) ∙ go g
  where
    go : (o : Option Group) → onto t o (keys_at t gs ++ keys_at t hs) ≡ onto t o (keys_at t gs) ++ keys_at t hs
    go none = refl
    go (some r) = by_bool (eqb t r.0) (λ e. rw e) (λ e. rw e)
