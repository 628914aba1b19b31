-- Demand 3 over the exported calls: two sets played in both orders. Assumes nothing.
use Rattle.std.specs.Prelude.{ℕ, ◌≤◌, ◌≡◌, true, List, length}
use Rattle.block.specs.Content.{model_of}
use Rattle.block.specs.Image.{content_of}
use Rattle.block.specs.Valid.{legal}
use Rattle.message.specs.Answer.{most_octets}
use Rattle.message.specs.Request.{read_request}
use Rattle.answer.specs.Respond.{answer_of}
use Rattle.answer.specs.Terms.{is_set, named_by}
use Rattle.answer.specs.Theorems.{MayCross, SameInBoth}
use Rattle.refbridge.specs.Calls.{outcome}
use Rattle.orders.specs.declared.FourCalls.{FourCalls}

-- "a message is readable when 2 and 4 to 8 don't arise": here a set. A slice holds octets, so that is no premise
pub record ReadableSet (s : List ℕ) : Type 0 where
  pub short : length s ≤ most_octets
  pub set : is_set (read_request s) ≡ true

-- demand 3's premises: two equal copies of one legal block, two readable sets that name nothing in common and have room, four rooms of at least 1,472 octets
pub record Crossing (one other a b r1 r2 r3 r4 : List ℕ) : Type 0 where
  pub legal_block : legal one ≡ true
  pub copies : other ≡ one
  pub readable_a : ReadableSet a
  pub readable_b : ReadableSet b
  pub apart : MayCross (content_of one) (named_by (model_of (content_of one)) a) (named_by (model_of (content_of one)) b)
  pub room_1 : most_octets ≤ length r1
  pub room_2 : most_octets ≤ length r2
  pub room_3 : most_octets ≤ length r3
  pub room_4 : most_octets ≤ length r4

-- demand 3's four calls q, with the rooms q1 to q4 and the two blocks that they leave. Each call gave the definition's answer on the block that it got: a
-- first call the block handed in, a second call the block that the first one's answer leaves (a host can read that one only before the second call). And under
-- the premises the two orders agree
pub record BothOrders (one other a b r1 r2 r3 r4 : List ℕ) (q : FourCalls) (q1 q2 q3 q4 one_after other_after : List ℕ) : Type 0 where
  pub first_a : outcome q.a1 q1 (answer_of one a r1).block ≡ answer_of one a r1
  pub second_b : outcome q.b2 q2 one_after ≡ answer_of (answer_of one a r1).block b r2
  pub first_b : outcome q.b1 q3 (answer_of other b r3).block ≡ answer_of other b r3
  pub second_a : outcome q.a2 q4 other_after ≡ answer_of (answer_of other b r3).block a r4
  pub agree : Crossing one other a b r1 r2 r3 r4
      → SameInBoth (outcome q.a1 q1 (answer_of one a r1).block) (outcome q.b2 q2 one_after) (outcome q.b1 q3 (answer_of other b r3).block)
      (outcome q.a2 q4 other_after)
