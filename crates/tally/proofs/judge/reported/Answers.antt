-- `tally::judge::reported` meets its contract. Assumes nothing.
use Rattle.tally.proofs.judge.reported.Goals as goal

pub returns-then-is_legal : goal.returns-then-is_legal
returns-then-is_legal c = rw (← c.is_legal.ensures, c.if-is_legal.true)

pub returns : goal.returns
returns c = rw (← c.is_legal.ensures, c.if-is_legal.false, c.from.ensures)
