-- `verdict::faults::attribute_fault` meets its contract. Assumes nothing.
use Rattle.verdict.proofs.faults.attribute_fault.Goals as goal

pub returns-then-there-removed : goal.returns-then-there-removed
returns-then-there-removed c = rw (c.if-there-made.true, c.if-there-removed.true)

pub returns-then-there-made : goal.returns-then-there-made
returns-then-there-made c = rw (c.if-there-made.true, c.if-there-removed.false)

pub returns : goal.returns
returns c = rw c.if-there-made.false
