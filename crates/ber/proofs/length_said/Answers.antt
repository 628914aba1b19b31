-- `ber::length_said` meets its contract. Assumes nothing.
use native.Mathlib.Omega.{arith}
use mathlib.Core.Path.{ap, ◌∙◌}
use Rattle.ber.specs.Ber.{at_most}
use Rattle.ber.proofs.BerLaws.{said-short, said-rest}
use Rattle.ber.proofs.length_said.Goals as goal

pub returns-then-octets-eq1 : goal.returns-then-octets-eq1
returns-then-octets-eq1 c = c.number_to.ensures ∙ ap (at_most c.args.most) (said-short _ _ _ c.if-octets-eq1.true)

pub returns : goal.returns
returns c = c.number_to-2.ensures ∙ ap (at_most c.args.most) (said-rest _ _ c.if-octets-eq1.false (omega arith))
