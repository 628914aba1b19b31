-- `verdict::faults::with_status` meets its contract. Assumes nothing.
use mathlib.Core.Path.{◌∙◌}
use Rattle.verdict.proofs.faults.PortSetLaws.{status-sets}
use Rattle.verdict.proofs.faults.with_status.Goals as goal

pub returns-then-removes_row : goal.returns-then-removes_row
returns-then-removes_row c = λ m k o e. rw (status-sets m k c.args.v o, ← c.removes_row.ensures, c.if-removes_row.true)

pub returns-then-makes_row : goal.returns-then-makes_row
returns-then-makes_row c =
    λ m k o e. c.or.ensures ∙ rw (e, status-sets m k c.args.v o, ← c.removes_row.ensures, c.if-removes_row.false, ← c.makes_row.ensures, c.if-makes_row.true)

pub returns : goal.returns
returns c = λ m k o e. rw (status-sets m k c.args.v o, ← c.removes_row.ensures, c.if-removes_row.false, ← c.makes_row.ensures, c.if-makes_row.false) e
