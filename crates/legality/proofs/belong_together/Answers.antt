-- `legality::belong_together` meets its contract. Assumes nothing.
use mathlib.Core.Path.{refl}
use Rattle.block.specs.Valid.{together}
use Rattle.legality.proofs.belong_together.Goals as goal

pub returns : goal.returns
unfolding together
returns c = refl
