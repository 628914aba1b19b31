-- "and the room can be used by the next set" (paper 02, E14): a bridge of four ports with 256 static rows, all but the last of status 4. A set that makes a row
-- has 13 before a reset and is accepted after it. Computed. Assumes nothing.
use Prim.Native.Nat.{ℕ, zero, suc, ◌*◌}
use mathlib.Core.Path.{◌≡◌, refl}
use mathlib.Core.List.{List, [], ◌∷◌}
use lib.ListN.{length}
use Rattle.octets.specs.Numbers.{be_at, be_octets}
use Rattle.octets.specs.Parts.{zeros, same}
use Rattle.octets.specs.Ports.{ports_to, only_to, disjoint, set_of, port_octets}
use Rattle.names.specs.Index.{within, weight, digits, number, key_in}
use Rattle.names.specs.Order.{is_prefix}
use Rattle.names.specs.Table.{objects, place_under, place_of}
use Rattle.names.specs.Groups.{table_from, table_of}
use Rattle.block.specs.Cells.{cells_in}
use Rattle.block.specs.Content.{Content, with_statics}
use Rattle.block.specs.Fresh.{times, fresh_column, fresh_columns, fresh_vlan, fresh}
use Rattle.block.specs.Image.{fit_to}
use Rattle.block.specs.Lookup.{lookup}
use Rattle.block.specs.Alter.{alter}
use Rattle.block.specs.declared.rows.StaticRow.{StaticRow}
use Rattle.answer.specs.Writes.{those, ordered, has, count, full, play, play_row}
use Rattle.answer.specs.Judge.{content_said, alone, among, judged_from}
use Rattle.answer.specs.Set.{gather, row_fault, first_fault, verdict, set_cells, apply, after}
use Rattle.answer.specs.Cases.{four_ports, static_status}
use Rattle.answer.proofs.Cases.{says, leaves, accepted, fault}
use Rattle.reset.specs.Reset.{stay, after_reset}

-- static rows of the addresses 1 to n, taken as numbers, with receive port 0 and status 4, before those of t
unfoldable pub volatile_to : ℕ → List (ℕ × StaticRow) → List (ℕ × StaticRow)
volatile_to zero t = t
volatile_to (suc n) t = volatile_to n ((suc n * 256, record { status = 4; allowed = 0 }) ∷ t)

abbrev pub volatile : List ℕ → Content
volatile a = with_statics (fresh four_ports a) (volatile_to 255 ((256 * 256, record { status = 3; allowed = 0 }) ∷ []))

pub record RoomAgain (a : List ℕ) : Type 0 where
  pub many : length (volatile a).statics ≡ 256
  pub before : says (volatile a) (static_status 3 ∷ []) ≡ fault 13 1
  pub one-stays : length (after_reset (volatile a)).statics ≡ 1
  pub accepted-after : says (after_reset (volatile a)) (static_status 3 ∷ []) ≡ accepted
  pub two-stand : length (leaves (after_reset (volatile a)) (static_status 3 ∷ [])).statics ≡ 2

pub room-again : (a : List ℕ) → RoomAgain a
unfolding fresh fresh_columns fresh_column times fresh_vlan zeros ports_to only_to disjoint set_of port_octets be_at be_octets objects place_under place_of is_prefix
    within weight digits number key_in same lookup alter fit_to cells_in content_said table_from table_of alone among judged_from
    those ordered has count full play play_row gather row_fault first_fault verdict set_cells apply after volatile_to stay
room-again a = record { many = refl; before = refl; one-stays = refl; accepted-after = refl; two-stand = refl }
