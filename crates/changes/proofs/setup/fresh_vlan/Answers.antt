-- `changes::setup::fresh_vlan` meets its contract. Assumes nothing.
use Rattle.octets.specs.Parts.{zeros}
use Rattle.block.specs.Fresh.{fresh_vlan}
use Rattle.changes.proofs.setup.fresh_vlan.Goals as goal

pub returns : goal.returns
unfolding fresh_vlan zeros
returns c = rw c.ports_to-all.ensures
