-- `tally::judge::is_unknown` meets its contract. Assumes nothing.
use mathlib.Core.Path.{refl}
use Rattle.tally.specs.Run.{unknown}
use Rattle.tally.proofs.judge.is_unknown.Goals as goal

pub returns : goal.returns
unfolding unknown
returns c = refl
