-- Laws of Egress and Forbidden of a VLAN row: what the kept bindings of a set leave of them is what their writes leave. Assumes nothing.
use Prim.Native.Nat.{ℕ, ◌+◌, ◌≤◌, ◌<◌}
use mathlib.Core.Path.{◌≡◌, refl, sym, ap, ◌∙◌}
use mathlib.Core.Bool.{Bool, true, false, cond, not, ◌&&◌, true≢false}
use mathlib.Core.Option.{Option, none, some}
use mathlib.Core.List.{List, [], ◌∷◌, ◌++◌, map}
use native.Mathlib.Omega.{arith}
use lib.Dec.{eqb, leb}
use lib.ListN.{length, drop, get_or, drop_of_length-le}
use borrow.Author.Tests.{leb-true, eq-eqb, ne_eqb}
use Rattle.std.specs.Prelude.{Option as Maybe, Some, None, Result, Ok}
use Rattle.std.specs.Option.{option_or}
use Rattle.octets.specs.Ports.{disjoint}
use Rattle.octets.proofs.BoolLaws.{both, by-eq, by_bool}
use Rattle.names.specs.declared.model.Model.{Model}
use Rattle.block.specs.declared.rows.VlanRow.{VlanRow}
use Rattle.names.specs.Places.{vlan_name, vlan_egress, vlan_forbidden, vlan_untagged, vlan_row_status}
use Rattle.answer.specs.Writes.{status, attribute, is_status, those, ordered, play_row}
use Rattle.block.specs.declared.tables.Table.TheVariants.{Vlan as vlan}
use Rattle.answer.specs.Tables.{ColumnOf, status_step, step, makes, removes, clash}
use Rattle.answer.specs.Set.{row_write, also, gather, writes_to, resulting}
use Rattle.verdict.specs.Kept.{is_column, status_meant, meant, meant_with, is_status_of, sets_of, attribute_sets}
use Rattle.verdict.specs.declared.judge.Kept.{Kept}
use Rattle.verdict.specs.declared.faults.Sets.{Sets}
use Rattle.verdict.proofs.PastEnd.{past_end, kept_turn}
use Rattle.verdict.proofs.columns.ColumnLaws.{elsewhere, write-of, by-row-status}
use Rattle.verdict.proofs.faults.StatusLaws.{status-turn}

-- by the place of a VLAN column
by-vlan-column : {C : Type 0} (i : ℕ) → is_column vlan i ≡ true
    → (i ≡ vlan_name → C) → (i ≡ vlan_egress → C) → (i ≡ vlan_forbidden → C) → (i ≡ vlan_untagged → C) → (i ≡ vlan_row_status → C) → C
by-vlan-column i h a b c d e =
    let t : (leb vlan_name i ≡ true) × (leb i vlan_row_status ≡ true) = both (leb vlan_name i) (leb i vlan_row_status) h in
    let low : vlan_name ≤ i = leb-true vlan_name i t.0 in
    let high : i ≤ vlan_row_status = leb-true i vlan_row_status t.1 in
    by-eq i vlan_name a (λ p. by-eq i vlan_egress b (λ q. by-eq i vlan_forbidden c (λ r. by-eq i vlan_untagged d (λ u. e (omega arith)))))

-- the row k after one write, where it passes a test
abbrev pub row_after : Model → (ColumnOf vlan → Bool) → ℕ → Option (ℕ × ColumnOf vlan) → Option VlanRow → Option VlanRow
row_after m p k none o = o
row_after m p k (some w) o = cond (p w.1) (cond (eqb k w.0) (step m vlan w.0 w.1 o) o) o

module _ (m : Model) (p : ColumnOf vlan → Bool) (k : ℕ) (ws : List (ℕ × ColumnOf vlan)) where
  row-turn : (w : Option (ℕ × ColumnOf vlan)) (o : Option VlanRow)
      → play_row (step m vlan) k (those p (also w ws)) o ≡ play_row (step m vlan) k (those p ws) (row_after m p k w o)
  unfolding those play_row
  row-turn none o = refl
  row-turn (some w) o = by_bool (p w.1) (λ e. rw e) (λ e. rw e)

row-append : (m : Model) (k : ℕ) (a b : List (ℕ × ColumnOf vlan)) (o : Option VlanRow)
    → play_row (step m vlan) k (a ++ b) o ≡ play_row (step m vlan) k b (play_row (step m vlan) k a o)
unfolding play_row
row-append m k [] b o = refl
row-append m k (w ∷ a) b o = row-append m k a b (cond (eqb k w.0) (step m vlan w.0 w.1 o) o)

-- a status kept binding of the row changes it as its number says
pub status-row : (m : Model) (s : List ℕ) (k : ℕ) (q : Kept) (o : Option VlanRow) → row_after m is_status k (row_write vlan (meant s (Ok q))) o
    ≡ cond (is_status_of vlan q && eqb k q.key) (status_step m vlan q.key (status_meant vlan q.value) o) o
unfolding those play_row
status-row m s k q o =
    sym (row-turn m is_status k [] (row_write vlan (meant s (Ok q))) o)
    ∙ ap (λ ws. play_row (step m vlan) k ws o) (status-turn vlan s q [])
    ∙ by_bool (is_status_of vlan q) (λ e. rw e) (λ e. rw e)

-- what a number in RowStatus makes of Egress and Forbidden: a row that is made has no ports
pub status-sets : (m : Model) (k v : ℕ) (o : Option VlanRow) → sets_of (status_step m vlan k (status_meant vlan v) o)
    ≡ cond (removes vlan (status_meant vlan v)) None (cond (makes vlan (status_meant vlan v)) (option_or (sets_of o) (Some (record { egress = 0; forbidden = 0 }))) (sets_of o))
status-sets m k v none = by-row-status v (λ i. rw i) (λ i. rw i) (λ i. rw i) (λ i. rw i) (λ n. rw (n.0, n.1, n.2, n.3))
status-sets m k v (some r) = by-row-status v (λ i. rw i) (λ i. rw i) (λ i. rw i) (λ i. rw i) (λ n. rw (n.0, n.1, n.2, n.3))

-- what holds of Egress and Forbidden where the row is there
abbrev pub on_some : (Sets → Sets) → Maybe Sets → Maybe Sets
on_some f None = None
on_some f (Some x) = Some (f x)

-- Egress and Forbidden after a kept binding of another column
abbrev pub sets_with : ℕ → Kept → Sets → Sets
sets_with k q x = cond (eqb k q.key) (attribute_sets q x) x

pub with-key : (k : ℕ) (q : Kept) (x : Sets) → k ≡ q.key → sets_with k q x ≡ attribute_sets q x
with-key k q x e = rw (eq-eqb k q.key e)

pub with-other : (k : ℕ) (q : Kept) (x : Sets) → (k ≡ q.key → ⊥) → sets_with k q x ≡ x
with-other k q x d = rw (ne_eqb k q.key d)

-- an absent row stays absent
attribute-absent : (m : Model) (k : ℕ) (w : Option (ℕ × ColumnOf vlan)) → row_after m (λ c. not (is_status c)) k w none ≡ none
attribute-absent m k none = refl
attribute-absent m k (some w) = go w.1
  where
    go : (c : ColumnOf vlan) → row_after m (λ c. not (is_status c)) k (some (w.0, c)) none ≡ none
    go (status x) = refl
    go (attribute f) = by_bool (eqb k w.0) (λ e. rw e) (λ e. rw e)

pub attribute-row : (m : Model) (s : List ℕ) (k : ℕ) (q : Kept) (o : Option VlanRow)
    → sets_of (row_after m (λ c. not (is_status c)) k (row_write vlan (meant s (Ok q))) o) ≡ on_some (sets_with k q) (sets_of o)
attribute-row m s k q none = rw (attribute-absent m k (row_write vlan (meant s (Ok q))))
attribute-row m s k q (some r) =
    rw (write-of vlan s q)
    (by_bool (eqb k q.key)
    (λ g. rw g
    (by_bool (is_column vlan q.place)
    (λ f. by-vlan-column q.place f (λ i. rw (i, g)) (λ i. rw (i, g)) (λ i. rw (i, g)) (λ i. rw (i, g)) (λ i. rw i))
    (λ f. rw (f, elsewhere (is_column vlan) q.place vlan_egress refl f, elsewhere (is_column vlan) q.place vlan_forbidden refl f))))
    (λ g. rw g
    (by_bool (is_column vlan q.place)
    (λ f. by-vlan-column q.place f (λ i. rw (i, g)) (λ i. rw (i, g)) (λ i. rw (i, g)) (λ i. rw (i, g)) (λ i. rw i))
    (λ f. rw f))))

-- so the writes of other columns leave an absent row absent
absent-stays : (m : Model) (k : ℕ) (ws : List (ℕ × ColumnOf vlan)) → play_row (step m vlan) k (those (λ c. not (is_status c)) ws) none ≡ none
unfolding those play_row
absent-stays m k [] = refl
absent-stays m k (w ∷ ws) = row-turn m (λ c. not (is_status c)) k ws (some w) none ∙ rw (attribute-absent m k (some w)) (absent-stays m k ws)

abbrev is_there : Maybe Sets → Bool
is_there None = false
is_there (Some x) = true

sets-none : (o : Option VlanRow) → None ≡ sets_of o → o ≡ none
sets-none none e = refl
sets-none (some r) e = absurd (true≢false (sym (ap is_there e)))

-- what a loop over kept bindings has made of the row k: with the kept bindings left, it comes to the row at the end
pub record Reached {E : Type 0} (n : E → ℕ) (m : Model) (p : ColumnOf vlan → Bool) (s : List ℕ) (k : ℕ) (qs : List (Result Kept E)) (x : Maybe Sets) (end : Option VlanRow) : Type 0 where
  pub row : Option VlanRow
  pub sets : x ≡ sets_of row
  pub rest : play_row (step m vlan) k (those p (writes_to vlan (map (meant_with n s) qs))) row ≡ end

module _ {E : Type 0} (n : E → ℕ) (m : Model) (p : ColumnOf vlan → Bool) (s : List ℕ) (k : ℕ) where
  pub reached-none : (qs : List (Result Kept E)) (x : Maybe Sets) (o : Option VlanRow) → x ≡ sets_of o
      → Reached n m p s k qs x (play_row (step m vlan) k (those p (writes_to vlan (map (meant_with n s) qs))) o)
  reached-none qs x o e = record { row = o; sets = e; rest = refl }

  pub reached-more : (qs : List (Result Kept E)) (i : ℕ) → i < length qs → (x y : Maybe Sets) (end : Option VlanRow)
      → ((o : Option VlanRow) → x ≡ sets_of o → y ≡ sets_of (row_after m p k (row_write vlan (meant_with n s (get_or qs i past_end))) o))
      → Reached n m p s k (drop i qs) x end → Reached n m p s k (drop (i + 1) qs) y end
  unfolding gather
  reached-more qs i h x y end f r =
      let q : Result Kept E = get_or qs i past_end in
      let rest : List (Result Kept E) = drop (i + 1) qs in
      let all : play_row (step m vlan) k (those p (writes_to vlan (map (meant_with n s) (q ∷ rest)))) r.row ≡ end = rw (kept_turn qs i h) at r.rest in
      record {
        row = row_after m p k (row_write vlan (meant_with n s q)) r.row;
        sets = f r.row r.sets;
        rest = sym (row-turn m p k (writes_to vlan (map (meant_with n s) rest)) (row_write vlan (meant_with n s q)) r.row) ∙ all;
      }

  pub reached-all : (qs : List (Result Kept E)) (i : ℕ) → length qs ≤ i → (x : Maybe Sets) (end : Option VlanRow) → Reached n m p s k (drop i qs) x end → x ≡ sets_of end
  unfolding gather those play_row
  reached-all qs i h x end r =
      let none_left : r.row ≡ end = rw (drop_of_length-le qs {i = i} h) at r.rest in
      r.sets ∙ ap sets_of none_left

-- the resulting row shares a port by its Egress and Forbidden
abbrev pub shared : Maybe Sets → Bool
shared None = false
shared (Some x) = not (disjoint x.egress x.forbidden)

clash-sets : (o : Option VlanRow) → clash o ≡ shared (sets_of o)
clash-sets none = refl
clash-sets (some r) = refl

module _ (m : Model) (ws : List (ℕ × ColumnOf vlan)) (k : ℕ) (o : Option VlanRow) where
  abbrev stated_row : Option VlanRow
  stated_row = play_row (step m vlan) k (those is_status ws) o

  pub shares-sets : (x : Maybe Sets) → x ≡ sets_of (play_row (step m vlan) k (those (λ c. not (is_status c)) ws) stated_row) → clash (resulting m vlan ws k o) ≡ shared x
  unfolding ordered
  shares-sets x e =
      ap clash (row-append m k (those is_status ws) (those (λ c. not (is_status c)) ws) o)
      ∙ clash-sets (play_row (step m vlan) k (those (λ c. not (is_status c)) ws) stated_row)
      ∙ ap shared (sym e)

  pub shares-none : None ≡ sets_of stated_row → clash (resulting m vlan ws k o) ≡ false
  shares-none e =
      let gone : play_row (step m vlan) k (those (λ c. not (is_status c)) ws) stated_row ≡ none = rw (sets-none stated_row e) (absent-stays m k ws) in
      shares-sets None (sym (ap sets_of gone))
