-- `block::reads::vlan_status` meets its contract. Assumes nothing.
use Rattle.octets.proofs.NumberLaws.{be_at-one}
use Rattle.block.specs.Image.{vlan_at}
use Rattle.block.proofs.reads.vlan_status.Goals as goal

pub returns : goal.returns
unfolding vlan_at
returns c = rw be_at-one
