-- What a kept binding writes: to which table, by the place of its object, and what its number makes of a row there. Assumes nothing.
use mathlib.Core.Path.{◌≡◌, refl, sym, ap, ◌∙◌}
use mathlib.Core.Bool.{Bool, true, false, cond, not, ◌&&◌, ◌||◌, true≢false, false≢true, and-false, and-not_self}
use mathlib.Core.Option.{Option, none, some}
use mathlib.Core.List.{List}
use Prim.Native.Nat.{ℕ, ◌-◌, ◌≤◌, ◌<◌}
use native.Mathlib.Omega.{arith}
use lib.Dec.{eqb, leb}
use borrow.Author.Tests.{eqb-true, leb-true, lt-leb, not-true, ne_eqb}
use Rattle.std.specs.Prelude.{Option as Maybe, Some, None, Ok}
use Rattle.octets.specs.Parts.{part}
use Rattle.octets.specs.Ports.{ports_to}
use Rattle.octets.proofs.BoolLaws.{both, by-eq, by_bool}
use Rattle.names.specs.declared.model.Model.{Model}
use Rattle.block.specs.declared.rows.VlanRow.{VlanRow}
use Rattle.names.specs.Places.{vlan_name, vlan_row_status, static_allowed, static_state, pair_bridge_state}
use Rattle.answer.specs.Writes.{status}
use Rattle.block.specs.Tables.{Row}
use Rattle.block.specs.declared.tables.Table.{Table}
use Rattle.block.specs.declared.tables.Table.TheVariants.{Vlan as vlan, Static as static, Pair as pair}
use Rattle.answer.specs.Tables.{create, state, destroy, keep, drop, paired, unpaired, Status, ColumnOf, made_vlan, status_step, step, makes, removes, misplaced}
use Rattle.answer.specs.Judge.{cell, row, clean}
use Rattle.answer.specs.Set.{in_table, row_write, loses}
use Rattle.answer.proofs.JudgeLaws.{in-table}
use Rattle.answer.proofs.StoredLaws.{own-write}
use Rattle.verdict.specs.Kept.{first_written, status_place, is_column, column_in, status_meant, column_at, written_to, written_as, meant, ColumnFits}
use Rattle.verdict.specs.declared.judge.Kept.{Kept}

-- a place that fails a test is not one that passes it
pub elsewhere : (p : ℕ → Bool) (i j : ℕ) → p j ≡ true → p i ≡ false → eqb i j ≡ false
elsewhere p i j h n = ne_eqb i j (λ e. true≢false (sym h ∙ sym (ap p e) ∙ n))

status-here : (t : Table) → is_column t (status_place t) ≡ true
status-here vlan = refl
status-here static = refl
status-here pair = refl

pub status-elsewhere : (t : Table) (i : ℕ) → is_column t i ≡ false → eqb i (status_place t) ≡ false
status-elsewhere t i h = elsewhere (is_column t) i (status_place t) (status-here t) h

-- a column's table is its own
pub column-high : (t : Table) (i : ℕ) → is_column t i ≡ true → i ≤ status_place t
column-high t i h = leb-true i (status_place t) (both (leb (first_written t) i) (leb i (status_place t)) h).1

pub column-here : (t : Table) (i : ℕ) → is_column t i ≡ true → column_in i ≡ Some t
column-here vlan i h = rw h
column-here static i h =
    let high : i ≤ static_state = column-high static i h in
    rw (lt-leb vlan_name i (omega arith), h)
column-here pair i h =
    let high : i ≤ pair_bridge_state = column-high pair i h in
    rw (lt-leb vlan_name i (omega arith), lt-leb static_allowed i (omega arith), h)

-- and a place that has its values in a table's rows is a column of it
abbrev held_in : Maybe Table → Table → Table
held_in None d = d
held_in (Some t) d = t

abbrev in_rows : Maybe Table → Bool
in_rows None = false
in_rows (Some t) = true

pub column-of : (t : Table) (i : ℕ) → column_in i ≡ Some t → is_column t i ≡ true
column-of t i h =
    by_bool (is_column vlan i) (λ e. rw (← owner vlan (rw e at h)) e)
    (λ e. by_bool (is_column static i) (λ f. rw (← owner static (rw (e, f) at h)) f)
    (λ f. by_bool (is_column pair i) (λ g. rw (← owner pair (rw (e, f, g) at h)) g) (λ g. absurd (false≢true (ap in_rows (rw (e, f, g) at h))))))
  where
    owner : (u : Table) → Some u ≡ Some t → u ≡ t
    owner u p = ap (λ (x : Maybe Table). held_in x vlan) p

-- a write to a table is none to another
apart : (t u : Table) (k : ℕ) (c : ColumnOf u) → (t ≡ u → ⊥) → in_table t u k c ≡ none
apart t u k c = in-table t (λ u c o. (t ≡ u → ⊥) → o ≡ none) k (λ c n. absurd (n refl)) (λ u c n. refl) u c

other : (t : Table) (g : ℕ × ℕ) (i k v : ℕ) (xs : List ℕ) → is_column t i ≡ false → row_write t (clean g (written_as i k v xs)) ≡ none
other t g i k v xs h = go (column_in i) refl
  where
    go : (o : Maybe Table) → column_in i ≡ o → row_write t (clean g (written_to o i k v xs)) ≡ none
    go None e = refl
    go (Some u) e = apart t u k (column_at u i v xs) (λ p. true≢false (sym (column-of u i e) ∙ sym (ap (λ (w : Table). is_column w i) p) ∙ h))

-- what a kept binding writes to a table
pub write-of : (t : Table) (s : List ℕ) (q : Kept) → row_write t (meant s (Ok q))
    ≡ cond (is_column t q.place) (some (q.key, column_at t q.place q.value (part s q.at q.len))) none
write-of t s q =
    let i : ℕ = q.place in
    let xs : List ℕ = part s q.at q.len in
    by_bool (is_column t i) (λ f. rw (f, column-here t i f) (own-write t q.key (column_at t i q.value xs))) (λ f. rw f (other t (0, 0) i q.key q.value xs f))

-- what a clean kept binding means, by where its object has its values
module _ (s : List ℕ) (q : Kept) where
  pub kept_row : (t : Table) → column_in q.place ≡ Some t → meant s (Ok q) ≡ clean (0, 0) (row t q.key (column_at t q.place q.value (part s q.at q.len)))
  kept_row t h = rw h

  pub kept-cell : column_in q.place ≡ None → meant s (Ok q) ≡ clean (0, 0) (cell q.place q.key q.value)
  kept-cell h = rw h

-- by a number in RowStatus
pub by-row-status : {C : Type 0} (v : ℕ) → (v ≡ 1 → C) → (v ≡ 2 → C) → (v ≡ 4 → C) → (v ≡ 5 → C)
    → ((eqb v 1 ≡ false) × (eqb v 2 ≡ false) × (eqb v 4 ≡ false) × (eqb v 5 ≡ false) → C) → C
by-row-status v a b c d e =
    by-eq v 1 a
    (λ p. by-eq v 2 b (λ q. by-eq v 4 c (λ r. by-eq v 5 d (λ t. e (ne_eqb v 1 p, ne_eqb v 2 q, ne_eqb v 4 r, ne_eqb v 5 t)))))

-- what a number in a status column makes, removes and is at fault for
pub makes-vlan : (v : ℕ) → makes vlan (status_meant vlan v) ≡ (eqb v 4 || eqb v 5)
makes-vlan v = by-row-status v (λ i. rw i) (λ i. rw i) (λ i. rw i) (λ i. rw i) (λ n. rw (n.0, n.1, n.2, n.3))

pub makes-static : (v : ℕ) → makes static (status_meant static v) ≡ not (eqb v 2)
makes-static v = by_bool (eqb v 2) (λ e. rw e) (λ e. rw e)

pub removes-vlan : (v : ℕ) → removes vlan (status_meant vlan v) ≡ not ((eqb v 1 || eqb v 2) || makes vlan (status_meant vlan v))
removes-vlan v = by-row-status v (λ i. rw i) (λ i. rw i) (λ i. rw i) (λ i. rw i) (λ n. rw (n.0, n.1, n.2, n.3))

pub removes-static : (v : ℕ) → removes static (status_meant static v) ≡ eqb v 2
removes-static v = by_bool (eqb v 2) (λ e. rw e) (λ e. rw e)

pub makes-pair : (v : ℕ) → makes pair (status_meant pair v) ≡ not (eqb v 3)
makes-pair v = by_bool (eqb v 3) (λ e. rw e) (λ e. rw e)

pub removes-pair : (v : ℕ) → removes pair (status_meant pair v) ≡ eqb v 3
removes-pair v = by_bool (eqb v 3) (λ e. rw e) (λ e. rw e)

pub misplaced-vlan : (v : ℕ) (p : Bool) → misplaced vlan (status_meant vlan v) p ≡ ((makes vlan (status_meant vlan v) && p) || ((eqb v 1 || eqb v 2) && not p))
misplaced-vlan v true = by-row-status v (λ i. rw i) (λ i. rw i) (λ i. rw i) (λ i. rw i) (λ n. rw (n.0, n.1, n.2, n.3))
misplaced-vlan v false = by-row-status v (λ i. rw i) (λ i. rw i) (λ i. rw i) (λ i. rw i) (λ n. rw (n.0, n.1, n.2, n.3))

-- a status that removes leaves no row, one that does not make makes none, and a number that makes a row
status-drops : (m : Model) (t : Table) (k : ℕ) (x : Status t) (o : Option (Row t)) → removes t x ≡ true → status_step m t k x o ≡ none
status-drops m vlan k (create s) o h = absurd (false≢true h)
status-drops m vlan k (state s) o h = absurd (false≢true h)
status-drops m vlan k destroy o h = refl
status-drops m static k (keep s) o h = absurd (false≢true h)
status-drops m static k drop o h = refl
status-drops m pair k (paired s) o h = absurd (false≢true h)
status-drops m pair k unpaired o h = refl

status-none : (m : Model) (t : Table) (k : ℕ) (x : Status t) → makes t x ≡ false → status_step m t k x none ≡ none
status-none m vlan k (create s) h = absurd (true≢false h)
status-none m vlan k (state s) h = refl
status-none m vlan k destroy h = refl
status-none m static k (keep s) h = absurd (true≢false h)
status-none m static k drop h = refl
status-none m pair k (paired s) h = absurd (true≢false h)
status-none m pair k unpaired h = refl

abbrev pub made_at : Model → (t : Table) → (k v : ℕ) → Row t
made_at m vlan k v = made_vlan m k (v - 3)
made_at m static k v = record { status = v; allowed = ports_to 64 m.ports }
made_at m pair k v = record { number = 0; state = v }

pub status-made : (m : Model) (t : Table) (k v : ℕ) → makes t (status_meant t v) ≡ true → status_step m t k (status_meant t v) none ≡ some (made_at m t k v)
status-made m vlan k v h =
    by-row-status v (λ i. absurd (false≢true (rw i at h))) (λ i. absurd (false≢true (rw i at h))) (λ i. rw i) (λ i. rw i)
    (λ n. absurd (false≢true (rw (n.0, n.1, n.2, n.3) at h)))
status-made m static k v h = rw (not-true (eqb v 2) (sym (makes-static v) ∙ h))
status-made m pair k v h = rw (not-true (eqb v 3) (sym (makes-pair v) ∙ h))

-- 4 and 5 make a VLAN row
pub made-small : (v : ℕ) → makes vlan (status_meant vlan v) ≡ true → (4 ≤ v) × (v ≤ 5)
made-small v h =
    by-row-status v (λ i. absurd (false≢true (rw i at h))) (λ i. absurd (false≢true (rw i at h))) (λ i. (omega arith, omega arith)) (λ i. (omega arith, omega arith))
    (λ n. absurd (false≢true (rw (n.0, n.1, n.2, n.3) at h)))

-- the same of the column at place i
module _ (m : Model) (t : Table) (k v : ℕ) (xs : List ℕ) (i : ℕ) where
  pub column-drops : (o : Option (Row t)) → eqb i (status_place t) && removes t (status_meant t v) ≡ true → step m t k (column_at t i v xs) o ≡ none
  column-drops o h =
      let p = both (eqb i (status_place t)) (removes t (status_meant t v)) h in
      rw p.0 (status-drops m t k (status_meant t v) o p.1)

  pub column-makes : eqb i (status_place t) && makes t (status_meant t v) ≡ true → step m t k (column_at t i v xs) none ≡ some (made_at m t k v)
  column-makes h =
      let p = both (eqb i (status_place t)) (makes t (status_meant t v)) h in
      rw p.0 (status-made m t k v p.1)

  pub column-none : eqb i (status_place t) && makes t (status_meant t v) ≡ false → step m t k (column_at t i v xs) none ≡ none
  column-none h =
      by_bool (eqb i (status_place t))
      (λ e.
      let q : makes t (status_meant t v) ≡ false = rw e at h in
      rw e (status-none m t k (status_meant t v) q))
      (λ e. rw e)

-- a VLAN row with another status
abbrev stated : ℕ → VlanRow → VlanRow
stated s r = record { status = s; len = r.len; name = r.name; egress = r.egress; forbidden = r.forbidden; untagged = r.untagged }

-- 1 and 2 set the status of a row that is there, 4 and 5 leave it
pub vlan-stated : (m : Model) (k v : ℕ) (xs : List ℕ) (r : VlanRow) → removes vlan (status_meant vlan v) ≡ false
    → step m vlan k (column_at vlan vlan_row_status v xs) (some r) ≡ some (cond (leb v 2) (stated v r) r)
vlan-stated m k v xs r h =
    by-row-status v (λ i. rw i) (λ i. rw i) (λ i. rw i) (λ i. rw i) (λ n. absurd (true≢false (rw (n.0, n.1, n.2, n.3) at h)))

-- an active row is active no more after 2 and after a number that removes it
pub loses-is : (m : Model) (k : ℕ) (r : VlanRow) (v : ℕ)
    → loses m k (status (status_meant vlan v)) (some r) ≡ (eqb r.status 1 && (eqb v 2 || removes vlan (status_meant vlan v)))
loses-is m k r v =
    let same : (eqb r.status 1 && not (eqb r.status 1)) ≡ (eqb r.status 1 && false) =
    and-not_self (eqb r.status 1) ∙ sym (and-false (eqb r.status 1)) in
    by-row-status v (λ i. rw i) (λ i. rw i) (λ i. rw i same) (λ i. rw i same) (λ n. rw (n.0, n.1, n.2, n.3))

-- a number in static Status that has room, and one that does not remove
pub static-small : (v : ℕ) → ColumnFits static (status (status_meant static v)) → v < 256
static-small v h = by_bool (eqb v 2) (λ q. omega (arith, eqb-true v 2 q)) (λ q. rw q at h)

pub static_stays : (v : ℕ) → removes static (status_meant static v) ≡ false → eqb v 2 ≡ false
static_stays v h = sym (removes-static v) ∙ h

-- the same of a pair
pub state-small : (v : ℕ) → ColumnFits pair (status (status_meant pair v)) → v < 256
state-small v h = by_bool (eqb v 3) (λ q. omega (arith, eqb-true v 3 q)) (λ q. rw q at h)

pub pair_small : (i v : ℕ) (xs : List ℕ) → ColumnFits pair (column_at pair i v xs) → v < 256
pair_small i v xs h = by_bool (eqb i pair_bridge_state) (λ e. state-small v (rw e at h)) (λ e. rw e at h)

pub pair-stays : (v : ℕ) → removes pair (status_meant pair v) ≡ false → eqb v 3 ≡ false
pair-stays v h = sym (removes-pair v) ∙ h
