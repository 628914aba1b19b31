-- `legality::pair_ok` meets its contract. Assumes nothing.
use mathlib.Core.Path.{refl}
use Rattle.block.specs.Valid.{pair_ok}
use Rattle.legality.proofs.pair_ok.Goals as goal

pub returns : goal.returns
unfolding pair_ok
returns c = refl
