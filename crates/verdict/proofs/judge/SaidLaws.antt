-- What a content says to an object: each answer of the code means `content_said`, by the places that the object table has for each type.
-- Assumes nothing.
use Prim.Native.Nat.{ℕ, zero, suc, ◌≤◌, ◌<◌}
use mathlib.Core.Path.{◌≡◌, refl, sym, ap, ◌∙◌}
use mathlib.Core.Bool.{Bool, true, false, cond, not, ◌||◌, ◌&&◌, true≢false, false≢true}
use mathlib.Core.List.{List}
use mathlib.Core.Option.{Option, none, some, map}
use native.Mathlib.Omega.{arith}
use lib.Dec.{eqb, leb}
use lib.ListN.{length}
use borrow.Author.Tests.{eqb-true, eq-eqb, ne_eqb, le-leb, lt-leb, not-true}
use Rattle.std.specs.Prelude.{Result, Ok, Err}
use Rattle.octets.specs.Numbers.{be_at}
use Rattle.octets.specs.Ports.{set_of, only_to}
use Rattle.names.specs.Table.{object_count, objects, object_at}
use Rattle.octets.proofs.BoolLaws.{both, by-eq, by_bool}
use Rattle.names.specs.declared.table.Syntax.{Syntax}
use Rattle.names.specs.declared.table.Syntax.TheVariants.{Integer, Text, Unsigned, Counter, Ports}
use Rattle.names.specs.Rule.{in_range, takes}
use Rattle.names.proofs.RuleLaws.{takes-unstepped, step_is, plain_step, plain-frames}
use Rattle.names.specs.declared.model.Model.{Model}
use Rattle.names.specs.Places.{stp_priority, stp_port_priority, sr_port_largest_frame, pair_bridge_num, pair_bridge_state, static_allowed, static_state, vlan_name, vlan_egress, vlan_forbidden, vlan_untagged, vlan_row_status}
use Rattle.answer.specs.declared.faults.Fault.{Fault}
use Rattle.answer.specs.declared.faults.Fault.TheVariants.{WrongType, WrongLength, WrongValue, NotWritable}
use Rattle.answer.specs.Writes.{status, attribute}
use Rattle.block.specs.declared.tables.Table.{Table}
use Rattle.block.specs.declared.tables.Table.TheVariants.{Vlan as vlan, Static as static, Pair as pair}
use Rattle.answer.specs.Tables.{egress, forbidden, untagged, allowed, bridge_number, ColumnOf, table_at, status_said, integer_said}
use Rattle.answer.specs.Judge.{row, cell, ContentSaid, right, tag_of, unless, said_to, value_in, value_at, length_ok, is_writable, content_said}
use Rattle.verdict.specs.Kept.{is_column, written_as, content_said_of, said_number, said_ports}
use Rattle.verdict.proofs.columns.ColumnLaws.{elsewhere}

-- a test of every number below n
abbrev every_below : (ℕ → Bool) → ℕ → Bool
every_below t zero = true
every_below t (suc n) = t n && every_below t n

every-below : (t : ℕ → Bool) (n : ℕ) → every_below t n ≡ true → (i : ℕ) → i < n → t i ≡ true
every-below t zero e i h = absurd (omega arith)
every-below t (suc n) e i h =
    let q = both (t n) (every_below t n) e in
    by-eq i n (λ p. ap t p ∙ q.0) (λ p. every-below t n q.1 i (omega arith))

-- an object that is no column of a growing table
abbrev is_cell : ℕ → Bool
is_cell i = not (is_column vlan i || (is_column static i || is_column pair i))

-- where a writable object of each type may stand: among the columns, the numbers are the statuses and a pair's bridge number
abbrev number_place : ℕ → Bool
number_place i = eqb i static_state || (eqb i vlan_row_status || (eqb i pair_bridge_num || (eqb i pair_bridge_state || is_cell i)))

abbrev place_for : Syntax → ℕ → Bool
place_for Integer i = number_place i
place_for Text i = eqb i vlan_name
place_for Unsigned i = number_place i
place_for Counter i = number_place i
place_for Ports i = eqb i static_allowed || (eqb i vlan_egress || (eqb i vlan_forbidden || eqb i vlan_untagged))

abbrev in_place : ℕ → Bool
in_place i = not (is_writable (object_at i).access) || place_for (object_at i).syntax i

all-in-place : every_below in_place object_count ≡ true
unfolding objects
all-in-place = refl

neither : (a b : Bool) → not (a || b) ≡ true → (a ≡ false) × (not b ≡ true)
neither true b e = absurd (false≢true e)
neither false b e = (refl, e)

-- an answer of the right type means what its length and its value decide
abbrev Means : Model → ℕ → List ℕ → Result ℕ Fault → Type 0
Means n i xs q = content_said_of i xs q ≡ unless (length_ok (object_at i) xs) 8 (value_at n i xs)

-- the port sets and the VLAN name, each at its place
module _ (n : Model) (xs : List ℕ) where
  ports-say : (t : Table) (i : ℕ) (c : ColumnOf t) → ((k : ℕ) → written_as i k (set_of xs) xs ≡ row t k c)
      → content_said_of i xs (said_ports n xs) ≡ unless (leb (length xs) 8) 8 (said_to t (cond (only_to 64 n.ports (set_of xs)) (some c) none))
  ports-say t i c e = go (leb (length xs) 8) (only_to 64 n.ports (set_of xs))
    where
      go : (a b : Bool) → content_said_of i xs (cond a (cond b (Ok (set_of xs)) (Err WrongValue)) (Err WrongLength))
          ≡ unless a 8 (said_to t (cond b (some c) none))
      go true true = λ z. right (λ k. e k z)
      go true false = refl
      go false b = refl

  allowed-says : Means n static_allowed xs (said_ports n xs)
  unfolding objects
  allowed-says = ports-say static static_allowed (attribute (allowed (set_of xs))) (λ k. refl)

  egress-says : Means n vlan_egress xs (said_ports n xs)
  unfolding objects
  egress-says = ports-say vlan vlan_egress (attribute (egress (set_of xs))) (λ k. refl)

  forbidden-says : Means n vlan_forbidden xs (said_ports n xs)
  unfolding objects
  forbidden-says = ports-say vlan vlan_forbidden (attribute (forbidden (set_of xs))) (λ k. refl)

  untagged-says : Means n vlan_untagged xs (said_ports n xs)
  unfolding objects
  untagged-says = ports-say vlan vlan_untagged (attribute (untagged (set_of xs))) (λ k. refl)

  name-says : leb (length xs) 32 ≡ true → Means n vlan_name xs (Ok 0)
  unfolding objects
  name-says h = rw h

-- what a number says to an object without steps
abbrev range_said : ℕ → ℕ → Result ℕ Fault
range_said i v = cond (in_range (object_at i) v && not (eqb i vlan_row_status && eqb v 3)) (Ok v) (Err WrongValue)

unstepped : (e i v : ℕ) → (i ≡ stp_priority → ⊥) → (i ≡ stp_port_priority → ⊥) → (i ≡ sr_port_largest_frame → ⊥) → said_number e i v ≡ range_said i v
unstepped e i v p q f =
    ap (λ (t : Bool). cond (t && not (eqb i vlan_row_status && eqb v 3)) (Ok v) (Err WrongValue))
    (takes-unstepped e (object_at i) v (step_is e (object_at i) (plain_step i p q)) (plain-frames i f))

-- RowStatus takes 1, 2, 4, 5 and 6, static Status 2 to 5
row-status : (xs : List ℕ) (v : ℕ) → content_said_of vlan_row_status xs (range_said vlan_row_status v) ≡ said_to vlan (map status (status_said vlan v))
unfolding objects
row-status xs zero = refl
row-status xs (suc zero) = refl
row-status xs (suc (suc zero)) = refl
row-status xs (suc (suc (suc zero))) = refl
row-status xs (suc (suc (suc (suc zero)))) = refl
row-status xs (suc (suc (suc (suc (suc zero))))) = refl
row-status xs (suc (suc (suc (suc (suc (suc zero)))))) = refl
row-status xs (suc (suc (suc (suc (suc (suc (suc u))))))) =
    let v : ℕ = suc (suc (suc (suc (suc (suc (suc u)))))) in
    rw (
      le-leb 1 v (omega arith),
      lt-leb v 6 (omega arith),
      ne_eqb v 1 (λ e. omega arith),
      ne_eqb v 2 (λ e. omega arith),
      ne_eqb v 4 (λ e. omega arith),
      ne_eqb v 5 (λ e. omega arith),
      ne_eqb v 6 (λ e. omega arith),
    )

static-status : (xs : List ℕ) (v : ℕ) → content_said_of static_state xs (range_said static_state v) ≡ said_to static (map status (status_said static v))
unfolding objects
static-status xs zero = refl
static-status xs (suc zero) = refl
static-status xs (suc (suc zero)) = refl
static-status xs (suc (suc (suc zero))) = refl
static-status xs (suc (suc (suc (suc zero)))) = refl
static-status xs (suc (suc (suc (suc (suc zero))))) = refl
static-status xs (suc (suc (suc (suc (suc (suc u)))))) =
    let v : ℕ = suc (suc (suc (suc (suc (suc u))))) in
    rw (le-leb 2 v (omega arith), le-leb 3 v (omega arith), lt-leb v 5 (omega arith), ne_eqb v 2 (λ e. omega arith))

-- a pair's state takes 1 to 3, and its bridge number its range
pair-state : (xs : List ℕ) (v : ℕ) → content_said_of pair_bridge_state xs (range_said pair_bridge_state v) ≡ said_to pair (integer_said pair pair_bridge_state v)
unfolding objects
pair-state xs zero = refl
pair-state xs (suc zero) = refl
pair-state xs (suc (suc zero)) = refl
pair-state xs (suc (suc (suc zero))) = refl
pair-state xs (suc (suc (suc (suc u)))) =
    let v : ℕ = suc (suc (suc (suc u))) in
    rw (le-leb 1 v (omega arith), lt-leb v 3 (omega arith), ne_eqb v 1 (λ e. omega arith), ne_eqb v 2 (λ e. omega arith), ne_eqb v 3 (λ e. omega arith))

pair-number : (xs : List ℕ) (v : ℕ) → content_said_of pair_bridge_num xs (range_said pair_bridge_num v) ≡ said_to pair (integer_said pair pair_bridge_num v)
pair-number xs v = go (in_range (object_at pair_bridge_num) v)
  where
    go : (t : Bool) → content_said_of pair_bridge_num xs (cond (t && not (eqb pair_bridge_num vlan_row_status && eqb v 3)) (Ok v) (Err WrongValue))
        ≡ said_to pair (map attribute (cond t (some (bridge_number v)) none))
    go true = refl
    go false = refl

-- a writable object that is no such column is in no growing table
abbrev outside : Option Table → Bool
outside none = true
outside (some t) = false

abbrev plainly : ℕ → Bool
plainly i = not (is_writable (object_at i).access) || (not (is_cell i) || outside (table_at (object_at i).shape))

all_plain : every_below plainly object_count ≡ true
unfolding objects
all_plain = refl

-- an object that has cells takes a number by its rule
module _ (n : Model) (i : ℕ) (xs : List ℕ) (writable : is_writable (object_at i).access ≡ true) (here : i < object_count) (plain : is_cell i ≡ true) where
  out-of-rows : (is_column vlan i ≡ false) × (is_column static i ≡ false) × (is_column pair i ≡ false)
  out-of-rows =
      let p = neither (is_column vlan i) (is_column static i || is_column pair i) plain in
      let q = neither (is_column static i) (is_column pair i) p.1 in
      (p.0, q.0, not-true (is_column pair i) q.1)

  abbrev in_cell : ℕ → ContentSaid
  in_cell v = unless (takes n.edition (object_at i) v) 10 (right (λ k. cell i k v))

  cell-value : value_at n i xs ≡ in_cell (be_at xs 0 4)
  cell-value =
      go (table_at (object_at i).shape)
      (rw (writable, plain) at (every-below plainly object_count all_plain i here))
    where
      go : (o : Option Table) → outside o ≡ true → value_in n i o xs ≡ in_cell (be_at xs 0 4)
      go none e = refl
      go (some t) e = absurd (false≢true e)

  cell-number : (v : ℕ) → content_said_of i xs (said_number n.edition i v) ≡ in_cell v
  cell-number v = go (takes n.edition (object_at i) v)
    where
      go : (t : Bool) → content_said_of i xs (cond (t && not (eqb i vlan_row_status && eqb v 3)) (Ok v) (Err WrongValue))
          ≡ unless t 10 (right (λ k. cell i k v))
      go true = rw (elsewhere (is_column vlan) i vlan_row_status refl out-of-rows.0, out-of-rows.0, out-of-rows.1, out-of-rows.2)
      go false = refl

  cell-says : length_ok (object_at i) xs ≡ true → Means n i xs (said_number n.edition i (be_at xs 0 4))
  cell-says h = rw h (cell-number (be_at xs 0 4) ∙ sym cell-value)

-- the same at any place for the type
module _ (n : Model) (xs : List ℕ) where
  ports-mean : (i : ℕ) → place_for Ports i ≡ true → Means n i xs (said_ports n xs)
  ports-mean i p =
      by_bool (eqb i static_allowed) (λ e. rw (eqb-true i static_allowed e) (allowed-says n xs))
      (λ a. by_bool (eqb i vlan_egress) (λ e. rw (eqb-true i vlan_egress e) (egress-says n xs))
      (λ b. by_bool (eqb i vlan_forbidden) (λ e. rw (eqb-true i vlan_forbidden e) (forbidden-says n xs))
      (λ c.
      let d : eqb i vlan_untagged ≡ true = rw (a, b, c) at p in
      rw (eqb-true i vlan_untagged d) (untagged-says n xs))))

  row-status-says : Means n vlan_row_status xs (said_number n.edition vlan_row_status (be_at xs 0 4))
  unfolding objects
  row-status-says =
      ap (content_said_of vlan_row_status xs) (unstepped n.edition vlan_row_status (be_at xs 0 4) (λ e. omega arith) (λ e. omega arith) (λ e. omega arith)) ∙ row-status xs (be_at xs 0 4)

  static-status-says : Means n static_state xs (said_number n.edition static_state (be_at xs 0 4))
  unfolding objects
  static-status-says =
      ap (content_said_of static_state xs) (unstepped n.edition static_state (be_at xs 0 4) (λ e. omega arith) (λ e. omega arith) (λ e. omega arith)) ∙ static-status xs (be_at xs 0 4)

  pair-number-says : Means n pair_bridge_num xs (said_number n.edition pair_bridge_num (be_at xs 0 4))
  unfolding objects
  pair-number-says =
      ap (content_said_of pair_bridge_num xs) (unstepped n.edition pair_bridge_num (be_at xs 0 4) (λ e. omega arith) (λ e. omega arith) (λ e. omega arith))
      ∙ pair-number xs (be_at xs 0 4)

  pair-state-says : Means n pair_bridge_state xs (said_number n.edition pair_bridge_state (be_at xs 0 4))
  unfolding objects
  pair-state-says =
      ap (content_said_of pair_bridge_state xs) (unstepped n.edition pair_bridge_state (be_at xs 0 4) (λ e. omega arith) (λ e. omega arith) (λ e. omega arith))
      ∙ pair-state xs (be_at xs 0 4)

  number-means : (i : ℕ) → is_writable (object_at i).access ≡ true → i < object_count → number_place i ≡ true → length_ok (object_at i) xs ≡ true → Means n i xs (said_number n.edition i (be_at xs 0 4))
  number-means i w here p h =
      by_bool (eqb i static_state) (λ e. rw (eqb-true i static_state e) static-status-says)
      (λ a. by_bool (eqb i vlan_row_status) (λ e. rw (eqb-true i vlan_row_status e) row-status-says)
      (λ b. by_bool (eqb i pair_bridge_num) (λ e. rw (eqb-true i pair_bridge_num e) pair-number-says)
      (λ c. by_bool (eqb i pair_bridge_state) (λ e. rw (eqb-true i pair_bridge_state e) pair-state-says)
      (λ f.
      let d : is_cell i ≡ true = rw (a, b, c, f) at p in
      cell-says n i xs w here d h))))

-- the tag is 0x22 of a text or a port set, and of no number
not-text : (y : Syntax) (i : ℕ) → eqb (tag_of y) 0x22 ≡ false → place_for y i ≡ true → number_place i ≡ true
not-text Integer i h p = p
not-text Text i h p = absurd (true≢false h)
not-text Unsigned i h p = p
not-text Counter i h p = p
not-text Ports i h p = absurd (true≢false h)

-- each answer, by the tests that led to it
module _ (n : Model) (i tag : ℕ) (xs : List ℕ) where
  pub read_only : is_writable (object_at i).access ≡ false → content_said_of i xs (Err NotWritable) ≡ content_said n i tag xs
  unfolding content_said
  read_only w = rw w

  module _ (writable : is_writable (object_at i).access ≡ true) where
    pub wrong_type : (tag ≡ tag_of (object_at i).syntax → ⊥) → content_said_of i xs (Err WrongType) ≡ content_said n i tag xs
    unfolding content_said
    wrong_type t = rw (writable, ne_eqb tag (tag_of (object_at i).syntax) t)

    module _ (typed : tag ≡ tag_of (object_at i).syntax) where
      read-on : (q : Result ℕ Fault) → Means n i xs q → content_said_of i xs q ≡ content_said n i tag xs
      unfolding content_said
      read-on q m = rw (writable, eq-eqb tag (tag_of (object_at i).syntax) typed) m

      pub too_long : (object_at i).syntax ≡ Text → (object_at i).high < length xs → content_said_of i xs (Err WrongLength) ≡ content_said n i tag xs
      too_long y h = read-on (Err WrongLength) (rw (y, lt-leb (length xs) (object_at i).high h))

      module _ (here : i < object_count) where
        in_place_lem : (y : Syntax) → (object_at i).syntax ≡ y → place_for y i ≡ true
        in_place_lem y e = rw (writable, e) at (every-below in_place object_count all-in-place i here)

        pub named : (object_at i).syntax ≡ Text → length xs ≤ (object_at i).high → content_said_of i xs (Ok 0) ≡ content_said n i tag xs
        unfolding objects
        named y h =
            let p : i ≡ vlan_name = eqb-true i vlan_name (in_place_lem Text y) in
            let l : leb (length xs) 32 ≡ true = le-leb (length xs) 32 (rw p at h) in
            read-on (Ok 0) (rw p (name-says n xs l))

        pub ports-said : (object_at i).syntax ≡ Ports → content_said_of i xs (said_ports n xs) ≡ content_said n i tag xs
        ports-said y = read-on (said_ports n xs) (ports-mean n xs i (in_place_lem Ports y))

        pub number-said : eqb tag 0x22 ≡ false → content_said_of i xs (said_number n.edition i (be_at xs 0 4)) ≡ content_said n i tag xs
        number-said t =
            let d : eqb (tag_of (object_at i).syntax) 0x22 ≡ false = rw typed at t in
            read-on (said_number n.edition i (be_at xs 0 4))
            (number-means n xs i writable here (not-text (object_at i).syntax i d (in_place_lem (object_at i).syntax refl)) (rw d))
