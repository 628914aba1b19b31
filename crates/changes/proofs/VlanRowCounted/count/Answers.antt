-- `VlanRow::count` meets its contract. Assumes nothing.
use Rattle.block.specs.Tables.{counted}
use Rattle.changes.proofs.VlanRowCounted.count.Goals as goal

pub returns : goal.returns
unfolding counted
returns c = cc
