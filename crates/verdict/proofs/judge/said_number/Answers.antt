-- `verdict::judge::said_number` meets its contract. Assumes nothing.
use Rattle.names.proofs.RuleLaws.{step-positive}
use Rattle.verdict.proofs.judge.said_number.Goals as goal

pub takes_value-requires : goal.takes_value-requires
takes_value-requires c = rw c.object.ensures (step-positive c.args.i)

pub returns-then-takes_value-not_ready : goal.returns-then-takes_value-not_ready
returns-then-takes_value-not_ready c = rw (← c.object.ensures, ← c.takes_value.ensures, c.if-takes_value-not_ready.true)

pub returns : goal.returns
returns c = rw (← c.object.ensures, ← c.takes_value.ensures, c.if-takes_value-not_ready.false)
