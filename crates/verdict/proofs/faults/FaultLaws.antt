-- Laws of the faults 18, 12 and 13 of a clean kept binding, and of the first fault of a message. Assumes nothing.
use Prim.Native.Nat.{ℕ, ◌+◌, ◌≤◌, ◌<◌}
use native.Mathlib.Numerals.{add-one}
use native.Mathlib.Omega.{arith}
use mathlib.Core.Path.{◌≡◌, refl, ap, ◌∙◌}
use mathlib.Core.Bool.{Bool, true, false, cond, not, ◌||◌, ◌&&◌}
use mathlib.Core.Option.{Option}
use mathlib.Core.List.{List, map}
use lib.Dec.{eqb}
use lib.ListN.{length, drop, get_or}
use borrow.Author.Tests.{eq-eqb, ne_eqb, eqb-true}
use Rattle.std.specs.Prelude.{Result, Ok, Err, All}
use Rattle.octets.proofs.BoolLaws.{by_bool}
use Rattle.names.specs.declared.model.Model.{Model}
use Rattle.block.specs.Content.{Content}
use Rattle.block.specs.Lookup.{lookup}
use Rattle.names.specs.Places.{pair_bridge_state, static_state, vlan_name, vlan_egress, vlan_forbidden}
use Rattle.answer.specs.Faults.{number_of}
use Rattle.answer.specs.declared.faults.Fault.{Fault}
use Rattle.answer.specs.declared.faults.Fault.TheVariants.{GenErr, WrongType, WrongLength, WrongValue, NoCreation, InconsistentValue, ResourceUnavailable, NotWritable, InconsistentName}
use Rattle.answer.specs.Writes.{is_status, on_status, present, has}
use Rattle.block.specs.Tables.{Row, rows_of}
use Rattle.block.specs.declared.tables.Table.{Table}
use Rattle.block.specs.declared.tables.Table.TheVariants.{Vlan as vlan, Static as static, Pair as pair}
use Rattle.answer.specs.Tables.{ColumnOf, makes, removes, misplaced, lacking, clash, clashes}
use Rattle.answer.specs.Judge.{Judged}
use Rattle.answer.specs.Set.{writes_to, attribute_fault, status_fault, resulting, row_fault, is_full, fault, first_fault}
use Rattle.verdict.specs.Kept.{status_place, is_column, status_meant, attribute_said, column_at, meant_with, full_in, full_of, KeepsNumbers, NonZero}
use Rattle.verdict.specs.declared.judge.Kept.{Kept}
use Rattle.verdict.proofs.PastEnd.{past_end, kept_turn}
use Rattle.verdict.proofs.columns.ColumnLaws.{column-high}

-- the fault of a write to the column at place i
module _ (m : Model) (t : Table) (f : Bool) (ws : List (ℕ × ColumnOf t)) (k i v : ℕ) (xs : List ℕ) (o : Option (Row t)) where
  pub status-fault : i ≡ status_place t
      → row_fault m t f ws k (column_at t i v xs) o ≡ status_fault (misplaced t (status_meant t v) (present o) || lacking t (status_meant t v) (present o) (has (λ c. not (is_status c)) k ws)) (makes t (status_meant t v)) (present o) f
  unfolding row_fault
  status-fault p = rw (p, eq-eqb (status_place t) (status_place t) refl)

  pub attribute-fault : (i ≡ status_place t → ⊥) → row_fault m t f ws k (column_at t i v xs) o
      ≡ attribute_fault (present o) (has (on_status (makes t)) k ws) (has (on_status (removes t)) k ws) (clashes t (attribute_said t i v xs) (resulting m t ws k o))
  unfolding row_fault
  attribute-fault p = rw (ne_eqb i (status_place t) p)

-- only Egress and Forbidden ask about the resulting row
pub clash-at : (t : Table) (d : Model) (c : Content) (m : List Judged) (k i v : ℕ) (xs : List ℕ) → is_column t i ≡ true
    → clashes t (attribute_said t i v xs) (resulting d t (writes_to t m) k (lookup k (rows_of t c)))
    ≡ ((eqb i vlan_egress || eqb i vlan_forbidden) && clash (resulting d vlan (writes_to vlan m) k (lookup k c.vlans)))
clash-at vlan d c m k i v xs h =
    by_bool (eqb i vlan_name) (λ e. rw (eqb-true i vlan_name e))
    (λ e. rw e (by_bool (eqb i vlan_egress) (λ f. rw f) (λ f. rw f (by_bool (eqb i vlan_forbidden) (λ g. rw g) (λ g. rw g)))))
clash-at static d c m k i v xs h =
    let high : i ≤ static_state = column-high static i h in
    rw (ne_eqb i vlan_egress (λ e. omega arith), ne_eqb i vlan_forbidden (λ e. omega arith))
clash-at pair d c m k i v xs h =
    let high : i ≤ pair_bridge_state = column-high pair i h in
    rw (ne_eqb i vlan_egress (λ e. omega arith), ne_eqb i vlan_forbidden (λ e. omega arith))

-- whether a table is full, among what is known of all of them
pub full-known : (t : Table) (c : Content) (m : List Judged) → full_of (full_in c m) t ≡ is_full t c m
full-known vlan c m = refl
full-known static c m = refl
full-known pair c m = refl

-- no fault has the number 0
pub fault-numbered : (f : Fault) → eqb (number_of f) 0 ≡ false
fault-numbered GenErr = refl
fault-numbered WrongType = refl
fault-numbered WrongLength = refl
fault-numbered WrongValue = refl
fault-numbered NoCreation = refl
fault-numbered InconsistentValue = refl
fault-numbered ResourceUnavailable = refl
fault-numbered NotWritable = refl
fault-numbered InconsistentName = refl

-- a `Fault` keeps its own number
pub own-numbers : KeepsNumbers (λ f e. e ≡ f) number_of
own-numbers f e p = ap number_of p

-- no kept `Fault` has the number 0
pub own-nonzero : (kept : List (Result Kept Fault)) → All (NonZero number_of) kept
own-nonzero kept i d h = go (get_or kept i d)
  where
    go : (k : Result Kept Fault) → NonZero number_of k
    go (Ok q) = tt
    go (Err f) = fault-numbered f

-- what is converted from a `Fault` whose number is x has the number x, which is not 0
pub converted-number : {E : Type 0} (from_gives : Fault → E → Type 0) (n : E → ℕ) → KeepsNumbers from_gives n → (f : Fault) (e : E) → from_gives f e
    → (x : ℕ) → number_of f ≡ x → (n e ≡ x) × (eqb (n e) 0 ≡ false)
converted-number from_gives n k f e g x h = (k f e g ∙ h, ap (λ (y : ℕ). eqb y 0) (k f e g) ∙ fault-numbered f)

-- a turn of the loop that looks for the first fault
pub first-turn : {E : Type 0} (n : E → ℕ) (c : Content) (m : List Judged) (s : List ℕ) (qs : List (Result Kept E)) (i : ℕ) → i < length qs
    → first_fault c m (map (meant_with n s) (drop i qs)) (i + 1)
    ≡ cond (eqb (fault c m (meant_with n s (get_or qs i past_end))) 0) (first_fault c m (map (meant_with n s) (drop (i + 1) qs)) (i + 1 + 1))
    (record { status = fault c m (meant_with n s (get_or qs i past_end)); index = i + 1 })
unfolding first_fault
first-turn n c m s qs i h = rw (kept_turn qs i h, add-one (i + 1))

-- where the fault of the binding at i has a number x other than 0, it is the first
pub first-here : {E : Type 0} (n : E → ℕ) (c : Content) (m : List Judged) (s : List ℕ) (qs : List (Result Kept E)) (i : ℕ) → i < length qs
    → (x : ℕ) → x ≡ fault c m (meant_with n s (get_or qs i past_end)) → eqb x 0 ≡ false
    → first_fault c m (map (meant_with n s) (drop i qs)) (i + 1) ≡ record { status = x; index = i + 1 }
first-here n c m s qs i h x e f = first-turn n c m s qs i h ∙ rw (← e, f)
