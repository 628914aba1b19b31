-- `block::reads::address` meets its contract. Assumes nothing.
use Rattle.std.proofs.Common.{arith}
use Rattle.std.proofs.lemmas.Grind.{common_steps}
use Rattle.block.proofs.ReadLaws.{address_is}
use Rattle.block.proofs.reads.address.Goals as goal

pub returns : goal.returns
returns c = rw (address_is c.args.block.now) (grind (arith, common_steps))
