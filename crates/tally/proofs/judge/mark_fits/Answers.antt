-- `tally::judge::mark_fits` meets its contract. Assumes nothing.
use mathlib.Core.Path.{refl}
use Rattle.tally.specs.Run.{mark_fits}
use Rattle.tally.proofs.judge.mark_fits.Goals as goal

pub returns : goal.returns
unfolding mark_fits
returns c = refl
