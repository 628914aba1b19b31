-- What the code's values mean. Assumes nothing.
use Rattle.std.specs.Prelude.{ℕ, ◌+◌, ◌-◌, ◌≤◌, ◌<◌, ◌≡◌, Bool, true, List, [], ◌∷◌, map, ltb, length, take, drop, Option as Maybe, Some, None, Result, Ok, Err, ⊤}
use Rattle.std.proofs.Math.Option.{Option, none, some}
use Rattle.octets.specs.Parts.{part}
use Rattle.names.specs.SubIds.{subids}
use Rattle.names.specs.declared.model.Model.{Model}
use Rattle.octets.specs.Ascending.{All as Every}
use Rattle.message.specs.Request.{refused, read_request}
use Rattle.message.specs.declared.form.Refusal.{Refusal}
use Rattle.message.specs.declared.request.Binding.{Binding}
use Rattle.block.specs.Content.{Content}
use Rattle.block.specs.Tables.{rows_of, most}
use Rattle.block.specs.declared.tables.Table.{Table}
use Rattle.answer.specs.Tables.{first_column}
use Rattle.answer.specs.Terms.{absent, is_set}
use Rattle.console.specs.Batch.{most_frames, frames_of}
use Rattle.answer.specs.Judge.{group_of}
use Rattle.batch.specs.Names.{Group, groups_of, keys_at}
use Rattle.batch.specs.Check.{accepted, refused_with, read_set, read_then, each_read, table_number, first_table}
use Rattle.batch.specs.declared.RbBatch.{RbBatch}
use Rattle.batch.specs.declared.groups.NamedGroup.{NamedGroup}
use Rattle.batch.specs.declared.groups.NamedGroups.{NamedGroups}
use Rattle.batch.specs.declared.pairs.Pair.{Pair}

-- the row or scalar of a place and a key
abbrev pub meant : Maybe NamedGroup → Option Group
meant None = none
meant (Some t) = some (t.table, t.key)

-- what the bindings of a message name
abbrev pub groups : NamedGroups → List (Option Group)
groups r = map meant (take r.count r.all)

abbrev pub Few : NamedGroups → Type 0
Few r = (r.count ≤ 16) × (length r.all ≡ 16)

-- what a binding of the message m names
abbrev pub group_at : Model → List ℕ → Binding → Option Group
group_at d m b = group_of d (subids (part m b.name b.size))

-- the messages from index at of a batch on, of which the first has the number i, and the number that ends them
abbrev pub frames_from : List ℕ → (at i : ℕ) → List (List ℕ) × ℕ
frames_from b at i = frames_of (most_frames + 1 - i) (drop at b)

-- what they name
abbrev pub named_from : Model → List ℕ → (at i : ℕ) → List (List (Option Group))
named_from d b at i = map (groups_of d) (frames_from b at i).0

-- what is said of them left to right, as far as refusals go
abbrev pub read_from : List ℕ → (at i : ℕ) → RbBatch
read_from b at i = each_read i (frames_from b at i).0 (refused_with (frames_from b at i).1)

-- a frame that is not wrong starts at index at
abbrev pub Goes : List ℕ → (at : ℕ) → Type 0
Goes b at = (at < length b) × ((n : ℕ) × ((frames_of n (drop at b)).1 ≡ 0))

-- no frame from index at on is wrong, and every message is a set
pub record SetsFrom (b : List ℕ) (at i : ℕ) : Type 0 where
  pub within : at ≤ length b
  pub right : (frames_from b at i).1 ≡ 0
  pub sets : Every (λ m. is_set (read_request m) ≡ true) (frames_from b at i).0

-- a message as a set: it is one, or its refusal
abbrev pub SetMeans : List ℕ → Result ⊤ Refusal → Type 0
SetMeans m (Ok u) = (i : ℕ) (v : RbBatch) → read_then i (read_set m) v ≡ v
SetMeans m (Err r) = (read_set m ≡ refused r) × (r.at ≤ length m)

-- what is said of messages as far as refusals go: nothing, or the first refusal
abbrev pub Said : Result ⊤ RbBatch → RbBatch → Type 0
Said (Ok u) v = v ≡ accepted
Said (Err r) v = (v ≡ r) × (r.number ≡ 0 → ⊥)

-- a message, two messages and a table by their numbers, 0 where there is none
abbrev pub number_at : Maybe ℕ → ℕ
number_at None = 0
number_at (Some j) = j

abbrev pub pair_at : Maybe Pair → ℕ × ℕ
pair_at None = (0, 0)
pair_at (Some p) = (p.first, p.second)

abbrev pub table_at : Maybe Table → ℕ
table_at None = 0
table_at (Some t) = table_number t

-- the absent rows that messages name, counted message by message
unfoldable pub absent_each : {R : Type 0} → List (ℕ × R) → (column : ℕ) → List (List (Option Group)) → ℕ
absent_each t c [] = 0
absent_each t c (gs ∷ gss) = absent t (keys_at c gs) + absent_each t c gss

-- the live rows of a table and the absent ones so counted; whether they are more than it has room for; and the number of the first such table
abbrev pub rows_counted : (t : Table) → Content → List (List (Option Group)) → ℕ
rows_counted t c gss = length (rows_of t c) + absent_each (rows_of t c) (first_column t) gss

abbrev pub short_counted : (t : Table) → Content → List (List (Option Group)) → Bool
short_counted t c gss = ltb (most t) (rows_counted t c gss)

abbrev pub first_counted : Content → List (List (Option Group)) → ℕ
first_counted c gss = first_table (λ t. short_counted t c gss)
