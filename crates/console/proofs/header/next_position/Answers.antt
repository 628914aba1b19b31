-- `console::header::next_position` meets its contract: a law of the step for each return. Assumes nothing.
use native.Mathlib.Omega.{arith}
use Rattle.console.proofs.HeaderLaws.{next-mark, next-other, next-length, next-long, next-sized}
use Rattle.console.proofs.header.next_position.Goals as goal

pub returns-then-octet-at : goal.returns-then-octet-at
returns-then-octet-at c = next-mark _ _ (omega arith) c.if-octet-at.true

pub returns-then-at-lt-MARK_OCTETS : goal.returns-then-at-lt-MARK_OCTETS
returns-then-at-lt-MARK_OCTETS c = next-other _ _ (omega arith) c.if-octet-at.false

pub returns-then-at-eq-MARK_OCTETS : goal.returns-then-at-eq-MARK_OCTETS
returns-then-at-eq-MARK_OCTETS c = next-length _ _ c.if-at-eq-MARK_OCTETS.true (omega arith)

pub returns-then-size-gt-MOST_OCTETS : goal.returns-then-size-gt-MOST_OCTETS
returns-then-size-gt-MOST_OCTETS c = next-long _ _ (omega arith) c.if-at-eq-MARK_OCTETS.false (omega arith) c.if-size-gt-MOST_OCTETS.true

pub returns : goal.returns
returns c = next-sized _ _ (omega arith) c.if-at-eq-MARK_OCTETS.false (omega arith) (omega arith)
