-- `tally::judge::decide` meets its contract. Assumes nothing.
use Rattle.std.proofs.Common.{rules}
use borrow.Author.Tests.{ne_eqb}
use Rattle.tally.specs.Codes.{event_end}
use Rattle.tally.specs.Run.{mark_after}
use Rattle.tally.proofs.TallyLaws.{refusal-counts}
use Rattle.tally.proofs.judge.decide.Goals.{then-event-eq-EVENT_END, else-event-eq-EVENT_END}
use Rattle.tally.proofs.judge.decide.Goals as goal

pub returns-in_err-judge_event-clause-mark : goal.returns-in_err-judge_event-clause-mark
returns-in_err-judge_event-clause-mark c = rw (← c.in_err-judge_event.ensures, refusal-counts c.in_err-judge_event.field-0.0)

pub returns-clause-write : goal.returns-clause-write
returns-clause-write c = rw (← c.place_of.ensures, ← c.state_after-state.ensures) (search rules)

pub returns-clause-mark : goal.returns-clause-mark
unfolding mark_after
returns-clause-mark c = elim c.if-event-eq-EVENT_END.branch [
  | then-event-eq-EVENT_END w ↦ rw (← c.in_ok-judge_event.ensures, w.ended-is, w.if-event-eq-EVENT_END.true)
  | else-event-eq-EVENT_END w ↦ rw (← c.in_ok-judge_event.ensures, ne_eqb _ event_end w.if-event-eq-EVENT_END.false, w.ended-is)
]
