-- `verdict::faults::status_fault` meets its contract. Assumes nothing.
use Rattle.verdict.proofs.faults.status_fault.Goals as goal

pub returns-then-misplaced : goal.returns-then-misplaced
returns-then-misplaced c = rw c.if-misplaced.true

pub returns-then-making-there : goal.returns-then-making-there
returns-then-making-there c = rw (c.if-misplaced.false, c.if-making-there.true)

pub returns : goal.returns
returns c = rw (c.if-misplaced.false, c.if-making-there.false)
