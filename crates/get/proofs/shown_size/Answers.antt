-- `get::shown_size` meets its contract. Assumes nothing.
use mathlib.Core.Path.{◌∙◌}
use borrow.Author.Tests.{eq-eqb, ne_eqb}
use Rattle.names.proofs.TableLaws.{short-at}
use Rattle.get.proofs.shown_size.Goals as goal

pub returns-then-kind-eq-GET : goal.returns-then-kind-eq-GET
returns-then-kind-eq-GET c = rw (eq-eqb _ 0 c.if-kind-eq-GET.true)

pub name_size-requires : goal.name_size-requires
name_size-requires c = rw c.object.ensures (short-at _)

pub returns : goal.returns
returns c = rw (ne_eqb _ 0 c.if-kind-eq-GET.false) (c.name_size.ensures ∙ rw c.object.ensures)
