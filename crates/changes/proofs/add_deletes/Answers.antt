-- `changes::add_deletes` meets its contract. Assumes nothing.
use Rattle.block.proofs.ChangeLaws.{image-deletes}
use Rattle.changes.proofs.add_deletes.Goals as goal

pub returns : goal.returns
returns c k s e = cc (image-deletes k c.args.n e)
