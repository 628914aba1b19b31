use Rattle.ber.proofs.BerLaws.{name-bad, name-on, name_done}
use Rattle.ber.proofs.is_name.Goals as goal

pub returns-then-fresh-x : goal.returns-then-fresh-x
returns-then-fresh-x c = name-bad _ _ _ c.loop-x.invariant c.loop-x-test.true c.if-fresh-x.true

pub loop-x-preserved : goal.loop-x-preserved
loop-x-preserved c = name-on _ _ _ c.loop-x.invariant c.loop-x-test.true c.if-fresh-x.false

pub returns : goal.returns
returns c = name_done _ _ _ c.loop-x.invariant c.loop-x-test.false
