-- `get::instance_for` meets its contract. Assumes nothing.
use borrow.Author.Tests.{eq-eqb, ne_eqb}
use Rattle.get.proofs.instance_for.Goals as goal

pub returns-then-kind-eq-GET : goal.returns-then-kind-eq-GET
returns-then-kind-eq-GET c = rw (eq-eqb _ 0 c.if-kind-eq-GET.true) c.instance_got.ensures

pub returns : goal.returns
returns c = rw (ne_eqb _ 0 c.if-kind-eq-GET.false) c.instance_next.ensures
