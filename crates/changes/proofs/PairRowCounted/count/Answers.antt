-- `PairRow::count` meets its contract. Assumes nothing.
use Rattle.std.proofs.Common.{rules}
use Rattle.block.specs.Tables.{counted}
use Rattle.changes.proofs.PairRowCounted.count.Goals as goal

pub returns : goal.returns
unfolding counted
returns c = search rules
