-- `tally::judge::none_running` meets its contract. Assumes nothing.
use mathlib.Core.Path.{refl}
use Rattle.tally.specs.Run.{none_running}
use Rattle.tally.proofs.judge.none_running.Goals as goal

pub returns : goal.returns
unfolding none_running
returns c = refl
