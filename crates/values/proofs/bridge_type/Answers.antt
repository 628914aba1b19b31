-- `values::bridge_type` meets its contract. Assumes nothing.
use mathlib.Core.Path.{◌∙◌}
use Rattle.values.proofs.bridge_type.Goals as goal

pub returns : goal.returns
returns c = c.type_of_device.ensures ∙ rw c.model-m.ensures
