-- `octets::parts::same_octets` meets its contract. Assumes nothing.
use mathlib.Core.Path.{◌∙◌}
use Rattle.octets.proofs.PartLaws.{pointwise-same}
use Rattle.octets.proofs.parts.same_octets.Goals as goal

pub returns : goal.returns
returns c = c.eq.ensures ∙ pointwise-same _ _
