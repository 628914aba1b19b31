-- `tally::judge::state_after` meets its contract. Assumes nothing.
use borrow.Author.Tests.{le-leb, lt-leb}
use Rattle.tally.specs.Codes.{event_fail}
use Rattle.tally.specs.Run.{state_after}
use Rattle.tally.proofs.judge.state_after.Goals as goal

pub returns-then-event-le-EVENT_FAIL : goal.returns-then-event-le-EVENT_FAIL
unfolding state_after
returns-then-event-le-EVENT_FAIL c = rw (le-leb _ event_fail c.if-event-le-EVENT_FAIL.true)

pub returns : goal.returns
unfolding state_after
returns c = rw (lt-leb _ event_fail c.if-event-le-EVENT_FAIL.false)
