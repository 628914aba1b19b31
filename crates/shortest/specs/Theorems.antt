-- The shortest datagrams (E2, "Reading takes any definite length form, ..; writing uses the shortest"), as named statements; proofs/ has a proof of each. Assumes nothing.
use Rattle.std.specs.Prelude.{ℕ, ◌≤◌, ◌<◌, ◌≡◌, Bool, true, List, eqb, length, get_or, take}
use Rattle.octets.specs.Parts.{part, patch}
use Rattle.message.specs.Form.{at_kind}
use Rattle.message.specs.Answer.{most_octets}
use Rattle.datagram.specs.Reading.{from_datagram}
use Rattle.sending.specs.Writing.{to_datagram}

-- the message's kind is that of a response
abbrev pub is_response : List ℕ → Bool
is_response m = eqb (get_or m at_kind 0) 2

-- d is a datagram of the message m and the community x: octets from which the reading hands over m, into any room that is long enough, and x stands at the community's place.
-- `answers` is the reading: the one of requests, or the one that takes responses too.
pub record DatagramOf (answers : Bool) (m x d : List ℕ) : Type 0 where
  pub octets : (i : ℕ) → get_or d i 0 < 256
  pub read : (room : List ℕ) → most_octets ≤ length room
      → (at : ℕ)
      × (from_datagram answers room d ≡ record { number = 0; count = length m; community = at; size = length x; room = patch room 0 m })
      × (part d at (length x) ≡ x)

-- It is a shortest one where no datagram of the same message and community has fewer octets.
pub record Shortest (answers : Bool) (m x d : List ℕ) : Type 0 where
  pub taken : DatagramOf answers m x d
  pub least : (e : List ℕ) → DatagramOf answers m x e → length d ≤ length e

-- Two shortest datagrams of one message and community are equal.
abbrev pub ShortestEqual : Type 0
ShortestEqual = (answers : Bool) (m x d e : List ℕ) → Shortest answers m x d → Shortest answers m x e → d ≡ e

-- Whatever a reading takes has a shortest datagram.
abbrev pub ShortestExists : Type 0
ShortestExists = (answers : Bool) (m x d : List ℕ) → DatagramOf answers m x d → (e : List ℕ) × Shortest answers m x e

-- "writing uses the shortest": what is written (a refusal writes no octet, its count is 0) is a shortest datagram of the response and the community that it was written from.
abbrev pub WritesShortest : Type 0
WritesShortest =
    (room x m : List ℕ) → ((i : ℕ) → get_or m i 0 < 256) → ((i : ℕ) → get_or x i 0 < 256) → 0 < (to_datagram room x m).count
    → Shortest true m x (take (to_datagram room x m).count (to_datagram room x m).room)

-- So a response that was read from a shortest datagram is written as that datagram, octet by octet, into a room that is long enough.
abbrev pub ShortestIsWritten : Type 0
ShortestIsWritten =
    (room m x d : List ℕ) → most_octets ≤ length room → is_response m ≡ true → Shortest true m x d
    → to_datagram room x m ≡ record { number = 0; count = length d; offset = 0; room = patch room 0 d }
