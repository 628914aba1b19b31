-- `tally::judge::judge_event` meets its contract. Assumes nothing.
use borrow.Author.Tests.{eq-eqb, ne_eqb}
use Rattle.tally.specs.Codes.{mark_set}
use Rattle.tally.specs.Run.{event_judged}
use Rattle.tally.proofs.judge.judge_event.Goals as goal

pub returns-then-not-is_legal : goal.returns-then-not-is_legal
unfolding event_judged
returns-then-not-is_legal c = rw (← c.is_legal.ensures, c.if-not-is_legal.true)

pub returns-then-mark-eq-MARK_SET : goal.returns-then-mark-eq-MARK_SET
unfolding event_judged
returns-then-mark-eq-MARK_SET c = rw (← c.is_legal.ensures, c.if-not-is_legal.false, eq-eqb _ mark_set c.if-mark-eq-MARK_SET.true)

pub returns-then-is_unknown : goal.returns-then-is_unknown
unfolding event_judged
returns-then-is_unknown c = rw (← c.is_legal.ensures, c.if-not-is_legal.false, ne_eqb _ mark_set c.if-mark-eq-MARK_SET.false, ← c.is_some.ensures, ← c.is_unknown.ensures, c.if-is_unknown.true)

pub returns-then-not_startable : goal.returns-then-not_startable
unfolding event_judged
returns-then-not_startable c = rw (← c.is_legal.ensures, c.if-not-is_legal.false, ne_eqb _ mark_set c.if-mark-eq-MARK_SET.false, ← c.is_some.ensures, ← c.is_unknown.ensures, c.if-is_unknown.false, ← c.is_some-runs.ensures, ← c.state_found-state.ensures, ← c.not_startable.ensures, c.if-not_startable.true)

pub returns-then-none_running : goal.returns-then-none_running
unfolding event_judged
returns-then-none_running c = rw (← c.is_legal.ensures, c.if-not-is_legal.false, ne_eqb _ mark_set c.if-mark-eq-MARK_SET.false, ← c.is_some.ensures, ← c.is_unknown.ensures, c.if-is_unknown.false, ← c.is_some-runs.ensures, ← c.state_found-state.ensures, ← c.not_startable.ensures, c.if-not_startable.false, ← c.none_running.ensures, c.if-none_running.true)

pub returns : goal.returns
unfolding event_judged
returns c = rw (← c.is_legal.ensures, c.if-not-is_legal.false, ne_eqb _ mark_set c.if-mark-eq-MARK_SET.false, ← c.is_some.ensures, ← c.is_unknown.ensures, c.if-is_unknown.false, ← c.is_some-runs.ensures, ← c.state_found-state.ensures, ← c.not_startable.ensures, c.if-not_startable.false, ← c.none_running.ensures, c.if-none_running.false)
