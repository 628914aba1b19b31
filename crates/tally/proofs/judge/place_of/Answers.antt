-- `tally::judge::place_of` meets its contract. Assumes nothing.
use Rattle.std.proofs.Common.{rules}
use borrow.Author.Tests.{eq-eqb, ne_eqb}
use Rattle.tally.specs.Codes.{event_start}
use Rattle.tally.proofs.judge.place_of.Goals as goal

pub returns-then-event-eq-EVENT_START : goal.returns-then-event-eq-EVENT_START
returns-then-event-eq-EVENT_START c = rw (eq-eqb _ event_start c.if-event-eq-EVENT_START.true) (search rules)

pub returns : goal.returns
returns c = rw (ne_eqb _ event_start c.if-event-eq-EVENT_START.false)
