-- Batches for a fresh bridge of four ports and any address (paper 02, E10 and E13), and for a source-routing bridge of 64 ports with 63 pairs (E12), as
-- named statements; `proofs/Example.antt` proves them. Assumes nothing.
use Rattle.std.specs.Prelude.{ℕ, zero, suc, ◌+◌, ◌≡◌, List, [], ◌∷◌, ◌++◌, replicate}
use Rattle.names.specs.Devices.{source_routing}
use Rattle.names.specs.Rule.{old_edition}
use Rattle.names.specs.declared.model.Model.{Model}
use Rattle.block.specs.Content.{Content, with_pairs}
use Rattle.block.specs.Fresh.{fresh}
use Rattle.block.specs.Image.{image}
use Rattle.block.specs.declared.rows.PairRow.{PairRow}
use Rattle.answer.specs.Judge.{Asked}
use Rattle.answer.specs.Cases.{four_ports, asked, egress, row_status, static_status, priority, get_of, set_of}
use Rattle.console.specs.Batch.{most_frames}
use Rattle.batch.specs.Order.{Call, Plays, SameInAll}
use Rattle.batch.specs.Check.{accepted, offending, short_of, refused_with, check_batch}
use Rattle.batch.specs.Theorems.{framed}

-- VLAN 10 is made, with Egress; a static row is made; StpPriority is set
abbrev pub three : List (List ℕ)
three = set_of (egress 10 (0xA0 ∷ []) ∷ row_status 10 4 ∷ []) ∷ set_of (static_status 3 ∷ []) ∷ set_of (priority 0 0x10 0 ∷ []) ∷ []

-- BridgeMaxAge 20 s, and BridgeHelloTime 2 s
abbrev pub max_age : List ℕ
max_age = set_of (asked (2 ∷ 12 ∷ 0 ∷ []) 0x21 (0 ∷ 0 ∷ 7 ∷ 0xD0 ∷ []) ∷ [])

abbrev pub hello_time : List ℕ
hello_time = set_of (asked (2 ∷ 13 ∷ 0 ∷ []) 0x21 (0 ∷ 0 ∷ 0 ∷ 200 ∷ []) ∷ [])

-- VLAN 10 by another column
abbrev pub ten_again : List ℕ
ten_again = set_of (egress 10 (0x80 ∷ []) ∷ [])

pub record Batches (a : List ℕ) : Type 0 where
  -- "The empty batch is accepted", and so is this one
  pub empty : check_batch (image (fresh four_ports a)) [] ≡ accepted
  pub takes : check_batch (image (fresh four_ports a)) (framed three) ≡ accepted
  -- so all its orders give the same (E13)
  pub orders : (xs ys : List Call) → Plays three xs → Plays three ys → SameInAll (image (fresh four_ports a)) xs ys
  -- the timers count as one scalar; a row is named by any of its columns
  pub timers : check_batch (image (fresh four_ports a)) (framed (set_of [] ∷ max_age ∷ set_of (priority 0 0x10 0 ∷ []) ∷ hello_time ∷ [])) ≡ offending 2 4
  pub row : check_batch (image (fresh four_ports a)) (framed (three ++ (ten_again ∷ max_age ∷ hello_time ∷ []))) ≡ offending 1 4
  -- a row that one message names twice is no pair
  pub twice : check_batch (image (fresh four_ports a)) (framed (set_of (egress 10 (0x80 ∷ []) ∷ egress 10 (0x80 ∷ []) ∷ []) ∷ [])) ≡ accepted
  -- a get is no set: 7 at the kind, with the message's number, before the octet of a wrong frame behind it
  pub no_set : check_batch (image (fresh four_ports a)) (framed (set_of [] ∷ get_of (1 ∷ 2 ∷ []) ∷ []) ++ (0 ∷ []))
      ≡ record { number = 7; message = 2; offset = 0; first = 0; second = 0; table = 0 }
  -- a wrong octet where a frame should start, or a header that is cut: 21; a length over 1,472: 22, though the frame is cut too
  pub wrong_frame : check_batch (image (fresh four_ports a)) (framed (max_age ∷ hello_time ∷ []) ++ (0 ∷ [])) ≡ refused_with 21
  pub cut_frame : check_batch (image (fresh four_ports a)) (framed (max_age ∷ []) ++ (0x7F ∷ 0 ∷ 2 ∷ 0 ∷ [])) ≡ refused_with 21
  pub long_frame : check_batch (image (fresh four_ports a)) (framed (max_age ∷ []) ++ (0x7F ∷ 0 ∷ 2 ∷ 5 ∷ 0xC1 ∷ [])) ≡ refused_with 22
  -- 64 messages, and an octet after them
  pub frames_at_most : check_batch (image (fresh four_ports a)) (framed (replicate most_frames (set_of []))) ≡ accepted
  pub octet_more : check_batch (image (fresh four_ports a)) (framed (replicate most_frames (set_of [])) ++ (0 ∷ [])) ≡ refused_with 23

-- a source-routing bridge
abbrev pub routing : Model
routing = record { ports = 64; edition = old_edition; device = source_routing }

-- a pair's bridge number and its state
abbrev pub pair_number : (low high x : ℕ) → Asked
pair_number low high x = asked (3 ∷ 5 ∷ 1 ∷ 3 ∷ low ∷ high ∷ []) 0x21 (0 ∷ 0 ∷ 0 ∷ x ∷ [])

abbrev pub pair_state : (low high s : ℕ) → Asked
pair_state low high s = asked (3 ∷ 5 ∷ 1 ∷ 4 ∷ low ∷ high ∷ []) 0x21 (0 ∷ 0 ∷ 0 ∷ s ∷ [])

-- the pairs of port 1 with the n ports from `high` on; 63 of them
unfoldable pub pairs_of_one : (high n : ℕ) → List (ℕ × PairRow)
pairs_of_one high zero = []
pairs_of_one high (suc n) = (256 + high, record { number = 0; state = 1 }) ∷ pairs_of_one (suc high) n

abbrev pub nearly_full : List ℕ → Content
nearly_full a = with_pairs (fresh routing a) (pairs_of_one 2 63)

-- a pair is made, with its bridge number; the pair of ports 1 and 2 goes
abbrev pub makes_pair : (low high : ℕ) → List ℕ
makes_pair low high = set_of (pair_number low high 5 ∷ pair_state low high 1 ∷ [])

abbrev pub removes_pair : List ℕ
removes_pair = set_of (pair_state 1 2 3 ∷ [])

-- E12: "E10 take these objects in, pairs as a third growing table with room for 64"
pub record PairBatches (a : List ℕ) : Type 0 where
  -- a pair is a row, named by any of its columns; low and high the other way round name none
  pub row : check_batch (image (nearly_full a)) (framed (makes_pair 2 3 ∷ makes_pair 2 4 ∷ set_of (pair_number 2 3 6 ∷ []) ∷ [])) ≡ offending 1 3
  pub no_row : check_batch (image (nearly_full a)) (framed (makes_pair 3 2 ∷ makes_pair 3 2 ∷ [])) ≡ accepted
  -- there is room for one pair more, not for two; the room of a pair that goes does not count
  pub takes : check_batch (image (nearly_full a)) (framed (makes_pair 2 3 ∷ removes_pair ∷ [])) ≡ accepted
  pub table : check_batch (image (nearly_full a)) (framed (makes_pair 2 3 ∷ removes_pair ∷ makes_pair 2 4 ∷ [])) ≡ short_of 3
  -- an object of the other device names nothing here
  pub others : check_batch (image (nearly_full a)) (framed (three ++ three)) ≡ accepted
