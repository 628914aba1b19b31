-- The growing tables (paper 01, "Rows that come and go", and E12): where each stands in a block, its rows in a content, and how many it has room for. Assumes nothing.
use Rattle.std.specs.Prelude.{ℕ, ◌+◌, ◌*◌, ◌^◌, Bool, cond, List, eqb, set}
use Rattle.octets.specs.Numbers.{be_at, be_octets}
use Rattle.octets.specs.Parts.{patch}
use Rattle.names.specs.Devices.{transparent, source_routing}
use Rattle.names.specs.declared.Shape.{Shape}
use Rattle.names.specs.declared.Shape.TheVariants.{Vlan, Static, Pair}
use Rattle.block.specs.Layout.{most_rows, at_vlan_count, at_static_count, at_pair_count, at_vlan_total, at_vlans, vlan_width, vlan_key, at_statics, static_width, static_key, most_pairs, at_pairs, pair_width, pair_key}
use Rattle.block.specs.Rows.{insert_at, remove_at}
use Rattle.block.specs.Content.{Content, with_vlans, with_statics, with_pairs}
use Rattle.block.specs.Lookup.{exchanged, no_vlan, no_static, no_pair}
use Rattle.block.specs.Image.{vlan_at, static_at, pair_at, vlan_octets, static_octets, pair_octets}
use Rattle.block.specs.declared.rows.VlanRow.{VlanRow}
use Rattle.block.specs.declared.rows.StaticRow.{StaticRow}
use Rattle.block.specs.declared.rows.PairRow.{PairRow}
use Rattle.block.specs.declared.tables.Standing.{Standing}
pub use Rattle.block.specs.declared.tables.Table.{Table}
pub use Rattle.block.specs.declared.tables.Table.TheVariants.{Vlan as vlan, Static as static, Pair as pair}

-- where a table stands: its row count, its first row, how many octets a row and a row's key have, and how many rows there is room for
abbrev pub standing : Table → Standing
standing vlan = record { count = at_vlan_count; rows = at_vlans; width = vlan_width; key = vlan_key; most = most_rows }
standing static = record { count = at_static_count; rows = at_statics; width = static_width; key = static_key; most = most_rows }
standing pair = record { count = at_pair_count; rows = at_pairs; width = pair_width; key = pair_key; most = most_pairs }

-- "each growing table (VLAN, static) has at most 256 rows"; "pairs as a third growing table with room for 64" (E12)
abbrev pub most : Table → ℕ
most t = (standing t).most

-- a table's rows, and the content with other rows in it
abbrev pub Row : Table → Type 0
Row vlan = VlanRow
Row static = StaticRow
Row pair = PairRow

abbrev pub rows_of : (t : Table) → Content → List (ℕ × Row t)
rows_of vlan c = c.vlans
rows_of static c = c.statics
rows_of pair c = c.pairs

abbrev pub with_rows : (t : Table) → Content → List (ℕ × Row t) → Content
with_rows vlan c rs = with_vlans c rs
with_rows static c rs = with_statics c rs
with_rows pair c rs = with_pairs c rs

-- a row and its key in octets, read from an index on, and what stands past a table's end
abbrev pub octets_of : (t : Table) → ℕ × Row t → List ℕ
octets_of vlan = vlan_octets
octets_of static = static_octets
octets_of pair = pair_octets

abbrev pub entry_at : (t : Table) → List ℕ → ℕ → ℕ × Row t
entry_at vlan = vlan_at
entry_at static = static_at
entry_at pair = pair_at

abbrev pub no_row : (t : Table) → ℕ × Row t
no_row vlan = no_vlan
no_row static = no_static
no_row pair = no_pair

-- the shape of a table's indexes
abbrev pub shape_of : Table → Shape
shape_of vlan = Vlan
shape_of static = Static
shape_of pair = Pair

-- "device 2 has the objects under 1 .. and these, and no others" (E12): the device that has a table, and how many rows it has room for on a device
abbrev pub device_of : Table → ℕ
device_of vlan = transparent
device_of static = transparent
device_of pair = source_routing

abbrev pub has_table : ℕ → Table → Bool
has_table d t = eqb d (device_of t)

abbrev pub room_in : ℕ → Table → ℕ
room_in d t = cond (has_table d t) (most t) 0

-- VlanNumDeletes is below this number
abbrev pub deletes_room : ℕ → ℕ
deletes_room d = cond (has_table d vlan) (2 ^ 32) 1

-- the index behind a table's last row
abbrev pub end_of : Table → List ℕ → ℕ
end_of t b = (standing t).rows + be_at b (standing t).count 4 * (standing t).width

-- a row put in at place i, the row there written anew, and taken out
abbrev pub row_in : (t : Table) → Content → ℕ → ℕ × Row t → Content
row_in t c i e = with_rows t c (insert_at (rows_of t c) i e)

abbrev pub row_put : (t : Table) → Content → ℕ → ℕ × Row t → Content
row_put t c i e = with_rows t c (set (rows_of t c) i e)

abbrev pub row_out : (t : Table) → Content → ℕ → Content
row_out t c i = with_rows t c (remove_at (rows_of t c) i)

-- what a block keeps of a table beside its rows, when the row at place i is no longer counted: of the VLAN table the number of active rows (E5)
unfoldable pub uncounted : Table → List ℕ → ℕ → List ℕ
uncounted vlan b i = patch b at_vlan_total (be_octets 2 (exchanged (be_at b at_vlan_total 2) (vlan_at b (at_vlans + i * vlan_width)).1.status 0))
uncounted static b i = b
uncounted pair b i = b

-- and when a row that was not counted is
unfoldable pub counted : (t : Table) → List ℕ → Row t → List ℕ
counted vlan b r = patch b at_vlan_total (be_octets 2 (exchanged (be_at b at_vlan_total 2) 0 r.status))
counted static b r = b
counted pair b r = b
