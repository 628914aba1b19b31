-- E13 over the exported calls: a batch played in an order, message by message. Assumes nothing.
use Rattle.std.specs.Prelude.{ℕ, zero, suc, ◌*◌, ◌<◌, ◌≡◌, length, take, get_or}
use mathlib.Core.List.{List, [], ◌∷◌, Permᴰ}
use Rattle.octets.specs.Parts.{part}
use Rattle.message.specs.Answer.{most_octets}
use Rattle.answer.specs.Respond.{Outcome, answer_of}
use Rattle.console.specs.Batch.{most_frames, frames_of}
use Rattle.batch.specs.Check.{accepted, check_batch}
use Rattle.batch.specs.Theorems.{numbered}
use Rattle.batch.specs.Order.{Call, played, left}
use Rattle.refbridge.specs.declared.RbResult.{RbResult}
use Rattle.orders.specs.declared.batches.TwoPlays.{TwoPlays}
use Rattle.refbridge.specs.Calls.{outcome}

-- the messages of a batch
abbrev pub messages_of : List ℕ → List (List ℕ)
messages_of batch = (frames_of most_frames batch).0

-- rooms of 1,472 octets, one behind the other: room k
abbrev pub room_at : List ℕ → (k : ℕ) → List ℕ
room_at rooms k = part rooms (most_octets * k) most_octets

-- 64 rooms
abbrev pub all_rooms : ℕ
all_rooms = most_octets * most_frames

-- an order is a list of numbers of messages, from 1: turn k plays the message with the k-th number, and its answer goes to room k
unfoldable pub turns_from : (ms : List (List ℕ)) (rooms : List ℕ) (k : ℕ) → (order : List ℕ) → List Call
turns_from ms rooms k [] = []
turns_from ms rooms k (i ∷ is) = record { message = numbered ms i; room = room_at rooms k } ∷ turns_from ms rooms (suc k) is

abbrev pub turns_of : (batch order rooms : List ℕ) → List Call
turns_of batch order rooms = turns_from (messages_of batch) rooms 0 order

abbrev pub no_result : RbResult
no_result = record { number = 0; count = 0; offset = 0 }

-- what is left behind the last turn
abbrev pub no_call : List ℕ × Outcome
no_call = ([], record { number = 0; count = 0; offset = 0; room = []; block = [] })

-- one turn: its result, with its room and the block afterwards, is the definition's, and the other rooms keep their octets
pub record Turned (block message rooms : List ℕ) (k : ℕ) (r : RbResult) (rooms_after block_after : List ℕ) : Type 0 where
  pub answer : outcome r (room_at rooms_after k) block_after ≡ answer_of block message (room_at rooms k)
  pub others : (j : ℕ) → (j ≡ k → ⊥) → room_at rooms_after j ≡ room_at rooms j
  pub long : length rooms_after ≡ length rooms

-- a batch played in an order: each turn's result, with its room afterwards, is what the definition gives of that turn (its block is the one that the turn
-- leaves, which a host can read only before the next turn), and the block afterwards is what all turns leave
pub record PlayedInOrder (block batch order rooms : List ℕ) (results : List RbResult) (rooms_after block_after : List ℕ) : Type 0 where
  pub each : (k : ℕ) → k < length order
      → outcome (get_or results k no_result) (room_at rooms_after k) (left block (take (suc k) (turns_of batch order rooms)))
      ≡ (get_or (played block (turns_of batch order rooms)) k no_call).1
  pub last : block_after ≡ left block (turns_of batch order rooms)

-- the numbers i, i + 1, .., n of them
abbrev pub numbers_from : (i n : ℕ) → List ℕ
numbers_from i zero = []
numbers_from i (suc n) = i ∷ numbers_from (suc i) n

-- "in any .. orders": every message of the batch once
abbrev pub IsOrder : (batch order : List ℕ) → Type 0
IsOrder batch order = Permᴰ (numbers_from 1 (length (messages_of batch))) order

-- what E13 says of two orders p and q, of results and rooms afterwards
pub record Alike (p q : List ℕ) (first second : List RbResult) (rooms more one other : List ℕ) : Type 0 where
  pub first_answered : (k : ℕ) → k < length p → (get_or first k no_result).number ≡ 0
  pub second_answered : (k : ℕ) → k < length q → (get_or second k no_result).number ≡ 0
  pub counts : (j k : ℕ) → j < length p → k < length q → get_or p j 0 ≡ get_or q k 0 → (get_or first j no_result).count ≡ (get_or second k no_result).count
  pub octets : (j k : ℕ) → j < length p → k < length q → get_or p j 0 ≡ get_or q k 0
      → take (get_or first j no_result).count (room_at rooms j) ≡ take (get_or second k no_result).count (room_at more k)
  pub blocks : one ≡ other

-- the check and the two plays r on two blocks, with the orders p and q, and what they leave: each is the definition's; and on equal copies of one block, where
-- the check accepts the batch, the two orders agree
pub record TwoOrders (one other batch p q rooms more : List ℕ) (r : TwoPlays) (rooms_after more_after one_after other_after : List ℕ) : Type 0 where
  pub checked : r.verdict ≡ check_batch one batch
  pub first : PlayedInOrder one batch p rooms r.first rooms_after one_after
  pub second : PlayedInOrder other batch q more r.second more_after other_after
  pub agree : other ≡ one → r.verdict ≡ accepted → IsOrder batch p → IsOrder batch q
      → Alike p q r.first r.second rooms_after more_after one_after other_after
