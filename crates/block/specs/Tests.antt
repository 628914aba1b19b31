-- How the code tests a block: nothing rests on these but proofs. A block is legal as `specs/Valid.antt` says; what these tests come to is that
-- (`proofs/RoundLaws`, `proofs/LegalLaws`). Assumes nothing.
use Rattle.std.specs.Prelude.{ℕ, suc, ◌-◌, Bool, true, ◌&&◌, List, [], ◌∷◌, eqb, leb, ltb}
use Rattle.octets.specs.Numbers.{be_at}
use Rattle.octets.specs.Parts.{zero_run}
use Rattle.names.specs.Index.{can_have, index}
use Rattle.names.specs.Table.{objects}
use Rattle.names.specs.declared.Shape.{Shape}
use Rattle.names.specs.declared.Shape.TheVariants.{Vlan, Static, Pair}
use Rattle.names.specs.declared.model.Model.{Model}
use Rattle.block.specs.Layout.{block_size, at_vlan_total, at_free_head, free_head, at_statics, at_pairs}
use Rattle.block.specs.Lookup.{active_vlans}
use Rattle.block.specs.Image.{content_of}
use Rattle.block.specs.Tables.{vlan, static, pair, deletes_room, end_of}
use Rattle.block.specs.Valid.{cells_ok, timers_hold, vlan_ok, static_ok, pair_ok, rows_ok}
use Rattle.block.specs.declared.rows.StaticRow.{StaticRow}

-- a priority or a class
abbrev pub is_small : ℕ → Bool
is_small v = leb v 7

-- `rows_ok` in two passes: each row by itself, and the keys. `static_rows_ok` and `statics_ascend` are these
abbrev pub row_ok : {R : Type 0} → Model → Shape → (R → Bool) → ℕ × R → Bool
row_ok m s t e = can_have m s (index s e.0) && t e.1

unfoldable pub ascends : {R : Type 0} → ℕ → List (ℕ × R) → Bool
ascends low [] = true
ascends low (e ∷ es) = leb low e.0 && ascends (suc e.0) es

abbrev pub static_status : ℕ × StaticRow → Bool
static_status e = leb 3 e.1.status && leb e.1.status 5

-- the tests of a block whose length, model and row counts are in order. The octets that no content uses are 0:
unfoldable pub unused_zero : List ℕ → Bool
unused_zero b =
    zero_run b at_free_head free_head
    && (zero_run b (end_of vlan b) (at_statics - end_of vlan b)
    && (zero_run b (end_of static b) (at_pairs - end_of static b)
    && zero_run b (end_of pair b) (block_size - end_of pair b)))

-- the VLAN rows are in order, and the stored number of active ones is theirs
unfoldable pub vlans_ok : Model → List ℕ → Bool
vlans_ok m b = rows_ok m Vlan (vlan_ok m) 0 (content_of b).vlans && eqb (active_vlans (content_of b).vlans) (be_at b at_vlan_total 2)

-- the rows of all tables are in order
unfoldable pub tables_ok : Model → List ℕ → Bool
tables_ok m b = vlans_ok m b && (rows_ok m Static (static_ok m) 0 (content_of b).statics && rows_ok m Pair pair_ok 0 (content_of b).pairs)

unfoldable pub parts_ok : Model → List ℕ → Bool
parts_ok m b =
    unused_zero b
    && (ltb (content_of b).deletes (deletes_room m.device)
    && (cells_ok m objects (content_of b).cells
    && (timers_hold m.device (content_of b).cells && tables_ok m b)))
