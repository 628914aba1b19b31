-- `walks::contrast::port_contrast` meets its contract. Assumes nothing.
use native.Mathlib.Omega.{arith}
use borrow.Author.Tests.{eq-eqb, ne_eqb}
use Rattle.walks.specs.Contrast.{port_contrast}
use Rattle.octets.proofs.PortLaws.{members-le, first-le}
use Rattle.walks.proofs.contrast.port_contrast.Goals as goal

pub returns-then-a-b : goal.returns-then-a-b
unfolding port_contrast
returns-then-a-b c = rw (eq-eqb _ _ c.if-a-b.true)

pub overflow_cast-result : goal.overflow_cast-result
overflow_cast-result c = omega (arith, members-le 64 c.args.a, c.count_members.ensures)

pub overflow_cast-result-2 : goal.overflow_cast-result-2
overflow_cast-result-2 c = omega (arith, members-le 64 c.args.b, c.count_members-2.ensures)

pub overflow_cast-result-3 : goal.overflow_cast-result-3
overflow_cast-result-3 c = omega (arith, first-le 64 c.args.a c.args.b, c.first_differing.ensures)

pub returns : goal.returns
unfolding port_contrast
returns c = rw (ne_eqb _ _ c.if-a-b.false, ← c.count_members.ensures, ← c.count_members-2.ensures, ← c.first_differing.ensures)
