-- `legality::unused_is_zero` meets its contract: the unused octets are four runs. Assumes nothing.
use Rattle.block.specs.Tests.{unused_zero}
use Rattle.legality.proofs.unused_is_zero.Goals as goal

pub returns : goal.returns
unfolding unused_zero
returns c = cc
