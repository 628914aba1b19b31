-- `tally::judge::not_startable` meets its contract. Assumes nothing.
use mathlib.Core.Path.{refl}
use Rattle.tally.specs.Run.{not_startable}
use Rattle.tally.proofs.judge.not_startable.Goals as goal

pub returns : goal.returns
unfolding not_startable
returns c = refl
