-- A binding judged by itself, as the code keeps it, and what it means. Assumes nothing.
use Rattle.std.specs.Prelude.{ℕ, ◌+◌, ◌%◌, ◌^◌, ◌<◌, ◌≤◌, ◌≡◌, Bool, true, false, cond, not, ◌||◌, ◌&&◌, List, [], ◌∷◌, map, eqb, leb, length, get_or, Option as Maybe, Some, None, Result, Ok, Err, IfErr}
use Rattle.std.proofs.Math.Option.{Option, none, some}
use Rattle.octets.specs.Parts.{part}
use Rattle.octets.specs.Ports.{set_of, only_to}
use Rattle.names.specs.Table.{object_count, object_at}
use Rattle.block.specs.Layout.{many_cells}
use Rattle.block.specs.Cells.{cell_of}
use Rattle.names.specs.Rule.{takes}
use Rattle.block.specs.Content.{Content}
use Rattle.names.specs.declared.model.Model.{Model}
use Rattle.block.specs.declared.rows.VlanRow.{VlanRow}
use Rattle.message.specs.Form.{content_length}
use Rattle.message.specs.declared.request.Binding.{Binding}
use Rattle.names.specs.Places.{is_timer, vlan_name, vlan_egress, vlan_forbidden, vlan_row_status, static_allowed, static_state, pair_bridge_num, pair_bridge_state}
use Rattle.answer.specs.Faults.{number_of}
use Rattle.answer.specs.declared.faults.Fault.{Fault}
use Rattle.answer.specs.declared.faults.Fault.TheVariants.{WrongLength, WrongValue}
use Rattle.answer.specs.Writes.{status, attribute}
use Rattle.block.specs.declared.tables.Table.{Table}
use Rattle.block.specs.declared.tables.Table.TheVariants.{Vlan as vlan, Static as static, Pair as pair}
use Rattle.answer.specs.Tables.{create, state, destroy, name, egress, forbidden, untagged, keep, drop, allowed, paired, unpaired, bridge_number, Status, Attribute, ColumnOf, vlan_ports, makes, removes}
use Rattle.answer.specs.Judge.{cell, row, Write, ContentSaid, wrong, right, Judged, bad, clean, among, judged}
use Rattle.answer.specs.Respond.{asked_at}
use Rattle.answer.specs.Set.{is_full, Verdict}
use Rattle.verdict.specs.declared.judge.Kept.{Kept}
use Rattle.verdict.specs.declared.faults.Act.{Act}
use Rattle.verdict.specs.declared.faults.Act.TheVariants.{Makes, Removes, Fills}
use Rattle.verdict.specs.declared.faults.Full.{Full}
use Rattle.verdict.specs.declared.faults.Sets.{Sets}
use Rattle.verdict.specs.declared.faults.Faulted.{Faulted}

-- of each growing table: its first column that is written, its status column, which is the last, and whether place i is one of them
abbrev pub first_written : Table → ℕ
first_written vlan = vlan_name
first_written static = static_allowed
first_written pair = pair_bridge_num

abbrev pub status_place : Table → ℕ
status_place vlan = vlan_row_status
status_place static = static_state
status_place pair = pair_bridge_state

abbrev pub is_column : Table → ℕ → Bool
is_column t i = leb (first_written t) i && leb i (status_place t)

-- where the object at place i has its values: in the rows of the growing table that it is a column of, or else in cells
abbrev pub column_in : ℕ → Maybe Table
column_in i = cond (is_column vlan i) (Some vlan) (cond (is_column static i) (Some static) (cond (is_column pair i) (Some pair) None))

-- the status that a number in a table's status column writes
abbrev pub status_meant : (t : Table) → ℕ → Status t
status_meant vlan x = cond (eqb x 1 || eqb x 2) (state x) (cond (eqb x 4) (create 1) (cond (eqb x 5) (create 2) destroy))
status_meant static x = cond (eqb x 2) drop (keep x)
status_meant pair x = cond (eqb x 3) unpaired (paired x)

-- what the column at place i writes: v is the number or the port set of its content, xs are the content's octets
abbrev pub attribute_said : (t : Table) → (i v : ℕ) → List ℕ → Attribute t
attribute_said vlan i v xs = cond (eqb i vlan_name) (name xs) (vlan_ports i v)
attribute_said static i v xs = allowed v
attribute_said pair i v xs = bridge_number v

abbrev pub column_at : (t : Table) → (i v : ℕ) → List ℕ → ColumnOf t
column_at t i v xs = cond (eqb i (status_place t)) (status (status_meant t v)) (attribute (attribute_said t i v xs))

-- what the object at place i writes at the key k
abbrev pub written_to : Maybe Table → (i k v : ℕ) → List ℕ → Write
written_to None i k v xs = cell i k v
written_to (Some t) i k v xs = row t k (column_at t i v xs)

abbrev pub written_as : (i k v : ℕ) → List ℕ → Write
written_as i k v xs = written_to (column_in i) i k v xs

-- what the content xs of the object at place i says
abbrev pub content_said_of : ℕ → List ℕ → Result ℕ Fault → ContentSaid
content_said_of i xs (Ok v) = right (λ k. written_as i k v xs)
content_said_of i xs (Err f) = wrong (number_of f)

-- what a number, in an edition, and a port set, on a bridge of a model, say
abbrev pub number_ok : ℕ → ℕ → ℕ → Bool
number_ok e i v = takes e (object_at i) v && not (eqb i vlan_row_status && eqb v 3)

abbrev pub said_number : ℕ → ℕ → ℕ → Result ℕ Fault
said_number e i v = cond (number_ok e i v) (Ok v) (Err WrongValue)

abbrev pub said_ports : Model → List ℕ → Result ℕ Fault
said_ports m xs = cond (leb (length xs) 8) (cond (only_to 64 m.ports (set_of xs)) (Ok (set_of xs)) (Err WrongValue)) (Err WrongLength)

-- a clean binding, as the code keeps it, that names the instance of the object at place i that has the key k and writes v
abbrev pub kept_of : (i k v : ℕ) → Binding → Kept
kept_of i k v b = record { place = i; len = b.len; at = b.content; key = k; value = v }

-- what is kept of a binding of a request s, as a judged binding; n gives the number of a fault
-- the row that it names is left out, since no fault and no change reads it
abbrev pub meant_with : {E : Type 0} → (E → ℕ) → List ℕ → Result Kept E → Judged
meant_with n s (Ok q) = clean (0, 0) (written_as q.place q.key q.value (part s q.at q.len))
meant_with n s (Err e) = bad (n e) none

-- the same for faults of the type `Fault`
abbrev pub meant : List ℕ → Result Kept Fault → Judged
meant s k = meant_with number_of s k

abbrev pub bare : Judged → Judged
bare (bad f t) = bad f none
bare (clean t w) = clean (0, 0) w

-- the same for all bindings that are kept
abbrev pub meant_by_with : {E : Type 0} → (E → ℕ) → List ℕ → List (Result Kept E) → List Judged
meant_by_with n s kept = map (meant_with n s) kept

-- the same for faults of the type `Fault`
abbrev pub meant_by : List ℕ → List (Result Kept Fault) → List Judged
meant_by s kept = meant_by_with number_of s kept

-- n gives a value that is converted from a `Fault` the number of that `Fault`
abbrev pub KeepsNumbers : {E : Type 0} → (from_gives : Fault → E → Type 0) → (E → ℕ) → Type 0
KeepsNumbers {E = E} from_gives n = (f : Fault) (e : E) → from_gives f e → n e ≡ number_of f

-- a kept binding is clean, or its fault has a number other than 0 (0 means no fault)
abbrev pub NonZero : {A E : Type 0} → (E → ℕ) → Result A E → Type 0
NonZero n r = IfErr r (λ e. eqb (n e) 0 ≡ false)

-- the bindings of a request s, judged
abbrev pub judged_in : Model → List ℕ → List Binding → List Judged
judged_in m s bs = judged m (map (asked_at s) bs)

-- whether the name of a binding stands in an earlier one
abbrev pub named_before : List ℕ → List Binding → Binding → Bool
named_before s earlier b = among (asked_at s b).name (map (λ e. (asked_at s e).name) earlier)

-- what the code asks of a binding of a set that was read from s: "name, 2 to 128 sub-ids of 4 octets", "21 integer (4 octets), 22 string (0 to 255), .."; its place
-- has two octets, since a "request over 1,472 octets" is refused
pub record Stands (s : List ℕ) (b : Binding) : Type 0 where
  pub short : b.size ≤ 512
  pub fours : b.size % 4 ≡ 0
  pub named : b.name + b.size ≤ length s
  pub filled : b.content + b.len ≤ length s
  pub near : b.content < 2 ^ 16
  pub tagged : (0x21 ≤ b.tag) × (b.tag ≤ 0x24)
  pub sized : content_length b.tag b.len ≡ true

pub record AllStand (s : List ℕ) (bs : List Binding) : Type 0 where
  pub few : length bs ≤ 16
  pub each : (i : ℕ) (d : Binding) → i < length bs → Stands s (get_or bs i d)

-- the content of what is kept of a binding stands in the request
abbrev pub Within : List ℕ → Result Kept Fault → Type 0
Within s (Ok q) = q.at + q.len ≤ length s
Within s (Err f) = Unit {0}

abbrev pub AllWithin : List ℕ → List (Result Kept Fault) → Type 0
AllWithin s kept = (i : ℕ) (d : Result Kept Fault) → i < length kept → Within s (get_or kept i d)

-- a kept binding that writes the status column of a table, and one that writes another of its columns
abbrev pub is_status_of : Table → Kept → Bool
is_status_of t q = eqb q.place (status_place t)

abbrev pub is_attribute_of : Table → Kept → Bool
is_attribute_of t q = is_column t q.place && not (eqb q.place (status_place t))

-- what a kept binding does to the row that it names in a table: its status makes the row, or removes it, or it writes another column
abbrev pub does : Act → Table → Kept → Bool
does Makes t q = is_status_of t q && makes t (status_meant t q.value)
does Removes t q = is_status_of t q && removes t (status_meant t q.value)
does Fills t q = is_attribute_of t q

-- whether what is kept of a binding is of a clean one that passes a test
abbrev pub if_clean : {E : Type 0} → (Kept → Bool) → Result Kept E → Bool
if_clean p (Ok q) = p q
if_clean p (Err e) = false

-- is there a clean binding that does so to the row k of a table
unfoldable pub is_done : {E : Type 0} → Act → Table → (k : ℕ) → List (Result Kept E) → Bool
is_done a t k [] = false
is_done a t k (q ∷ qs) = if_clean (λ q. eqb k q.key && does a t q) q || is_done a t k qs

-- the rows of a table that clean bindings make and remove, by which keys are there: one number for each
unfoldable pub made : {E : Type 0} → (t : Table) → (there : ℕ → Bool) → List (Result Kept E) → ℕ
made t there [] = 0
made t there (q ∷ qs) =
    cond (if_clean (λ q. is_status_of t q && (makes t (status_meant t q.value) && not (there q.key))) q) 1 0 + made t there qs

unfoldable pub removed : {E : Type 0} → (t : Table) → (there : ℕ → Bool) → List (Result Kept E) → ℕ
removed t there [] = 0
removed t there (q ∷ qs) =
    cond (if_clean (λ q. is_status_of t q && (removes t (status_meant t q.value) && there q.key)) q) 1 0 + removed t there qs

-- whether each growing table would have more rows than there is room for, and what this says of one of them
abbrev pub full_in : Content → List Judged → Full
full_in c m = record { vlans = is_full vlan c m; statics = is_full static c m; pairs = is_full pair c m }

abbrev pub full_of : Full → Table → Bool
full_of f vlan = f.vlans
full_of f static = f.statics
full_of f pair = f.pairs

-- Egress and Forbidden of a row that may be there
abbrev pub sets_of : Option VlanRow → Maybe Sets
sets_of none = None
sets_of (some r) = Some (record { egress = r.egress; forbidden = r.forbidden })

-- and after a clean binding of a column that is no status
abbrev pub attribute_sets : Kept → Sets → Sets
attribute_sets q x = record { egress = cond (eqb q.place vlan_egress) q.value x.egress; forbidden = cond (eqb q.place vlan_forbidden) q.value x.forbidden }

-- status and index of the lowest binding at fault, or 0 and 0; n gives the number of a fault
abbrev pub verdict_with : {E : Type 0} → (E → ℕ) → Result Unit (Faulted E) → Verdict
verdict_with n (Ok u) = record { status = 0; index = 0 }
verdict_with n (Err e) = record { status = n e.fault; index = e.index }

-- the same for faults of the type `Fault`
abbrev pub verdict_as : Result Unit (Faulted Fault) → Verdict
verdict_as r = verdict_with number_of r

-- what the code asks of a write: its numbers have room in the block's octets
abbrev pub key_room : Table → ℕ
key_room vlan = 2 ^ 16
key_room static = 2 ^ 56
key_room pair = 2 ^ 16

abbrev pub ColumnFits : (t : Table) → ColumnOf t → Type 0
ColumnFits vlan (status (create x)) = x < 256
ColumnFits vlan (status (state x)) = x < 256
ColumnFits vlan (status destroy) = Unit {0}
ColumnFits vlan (attribute (name xs)) = length xs ≤ 32
ColumnFits vlan (attribute (egress x)) = x < 2 ^ 64
ColumnFits vlan (attribute (forbidden x)) = x < 2 ^ 64
ColumnFits vlan (attribute (untagged x)) = x < 2 ^ 64
ColumnFits static (status (keep x)) = x < 256
ColumnFits static (status drop) = Unit {0}
ColumnFits static (attribute (allowed x)) = x < 2 ^ 64
ColumnFits pair (status (paired x)) = x < 256
ColumnFits pair (status unpaired) = Unit {0}
ColumnFits pair (attribute (bridge_number x)) = x < 256

-- a cell is a timer's where its object is that timer
abbrev pub OwnCell : (i k : ℕ) → Type 0
OwnCell i k = (t : ℕ) → is_timer t ≡ true → eqb (cell_of i k) (cell_of t 0) ≡ eqb i t

abbrev pub JudgedFits : Judged → Type 0
JudgedFits (bad f g) = Unit {0}
JudgedFits (clean g (cell i k v)) = (i < object_count) × (k < 1024) × (cell_of i k < many_cells) × (v < 2 ^ 32) × OwnCell i k
JudgedFits (clean g (row t k x)) = (k < key_room t) × ColumnFits t x

-- what the code asks of what is kept of the bindings of a request s
pub record KeptFit (s : List ℕ) (kept : List (Result Kept Fault)) : Type 0 where
  pub fits : (i : ℕ) (d : Result Kept Fault) → i < length kept → JudgedFits (meant s (get_or kept i d))
  pub within : AllWithin s kept

-- what the code asks before it reads timers from kept bindings: the number of a clean binding that writes a cell has room in four octets, and its place tells
-- whether the cell is a timer's
abbrev pub TimerFits : {E : Type 0} → Result Kept E → Type 0
TimerFits (Ok q) = column_in q.place ≡ None → (q.value < 2 ^ 32) × OwnCell q.place q.key
TimerFits (Err e) = Unit {0}

abbrev pub TimersFit : {E : Type 0} → List (Result Kept E) → Type 0
TimersFit {E = E} kept = (i : ℕ) (d : Result Kept E) → i < length kept → TimerFits (get_or kept i d)
