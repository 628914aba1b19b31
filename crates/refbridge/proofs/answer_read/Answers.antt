-- `refbridge::answer_read` meets its contract: a set judges and echoes, a get or a get-next puts its answer. Assumes nothing.
use Prim.Native.Nat.{◌≤◌}
use native.Mathlib.Omega.{arith}
use Rattle.message.specs.Answer.{most_octets}
use Rattle.message.proofs.AnswerLaws.{answer-fits}
use Rattle.refbridge.proofs.CallLaws.{set-answer, get-answer}
use Rattle.refbridge.proofs.answer_read.Goals as goal

pub set_block-verdict-requires : goal.set_block-verdict-requires
set_block-verdict-requires c = (c.requires.0, c.requires.2.sets c.if-kind-eq-SET.true)

pub returns-then-kind-eq-SET : goal.returns-then-kind-eq-SET
returns-then-kind-eq-SET c =
    let e = c.set_block-verdict.ensures in
    rw c.counted.ensures (set-answer c.args.block.now c.args.room.now c.requires.2 c.if-kind-eq-SET.true e.0 e.1 c.put_verdict.ensures)

pub overflow_cast-put_answer : goal.overflow_cast-put_answer
overflow_cast-put_answer c =
    let d = c.put_answer in
    let h : d.result ≤ most_octets = rw d.ensures.0 (answer-fits _ _) in
    omega arith

pub returns : goal.returns
returns c =
    let e = c.put_answer.ensures in
    rw c.counted-2.ensures (get-answer c.args.block.now c.args.room.now c.requires.2 c.if-kind-eq-SET.false e.0 e.1)
