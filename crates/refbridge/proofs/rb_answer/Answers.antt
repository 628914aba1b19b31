-- `refbridge::rb_answer` meets its contract: the refusals in their order, and then the answer. Assumes nothing.
use mathlib.Core.Path.{◌≡◌, sym, ◌∙◌}
use mathlib.Core.Bool.{false}
use native.Mathlib.Omega.{arith}
use Rattle.block.specs.Valid.{legal}
use Rattle.refbridge.proofs.CallLaws.{room-short, request-long, not-legal, is_read}
use Rattle.refbridge.proofs.rb_answer.Goals as goal

pub returns-then-room-lt-MOST_OCTETS : goal.returns-then-room-lt-MOST_OCTETS
returns-then-room-lt-MOST_OCTETS c =
    let a = c.args in
    rw c.refused.ensures (room-short a.block.now a.request.now a.room.now (omega arith))

pub returns-then-request-gt-MOST_OCTETS : goal.returns-then-request-gt-MOST_OCTETS
returns-then-request-gt-MOST_OCTETS c =
    let a = c.args in
    rw c.refused-then-request-gt-MOST_OCTETS.ensures (request-long a.block.now a.request.now a.room.now (omega arith) (omega arith))

pub returns-then-not-is_legal : goal.returns-then-not-is_legal
returns-then-not-is_legal c =
    let a = c.args in
    let l : legal a.block.now ≡ false = sym c.is_legal.ensures ∙ c.if-not-is_legal.true in
    rw c.refused-then-not-is_legal.ensures (not-legal a.block.now a.request.now a.room.now (omega arith) (omega arith) l)

pub answer_legal-requires : goal.answer_legal-requires
answer_legal-requires c = (sym c.is_legal.ensures ∙ c.if-not-is_legal.false, omega arith, omega arith)

pub returns : goal.returns
returns c = c.answer_legal.ensures ∙ is_read _ _ _ (omega arith) (omega arith) (sym c.is_legal.ensures ∙ c.if-not-is_legal.false)
