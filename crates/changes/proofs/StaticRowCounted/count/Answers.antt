-- `StaticRow::count` meets its contract. Assumes nothing.
use Rattle.std.proofs.Common.{rules}
use Rattle.block.specs.Tables.{counted}
use Rattle.changes.proofs.StaticRowCounted.count.Goals as goal

pub returns : goal.returns
unfolding counted
returns c = search rules
