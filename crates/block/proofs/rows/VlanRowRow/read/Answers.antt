-- `VlanRow::read` meets its contract. Assumes nothing.
use Rattle.block.specs.Image.{vlan_at}
use Rattle.octets.proofs.NumberLaws.{be_at-one}
use Rattle.block.proofs.rows.VlanRowRow.read.Goals as goal

pub returns : goal.returns
unfolding vlan_at
returns c = rw (be_at-one, be_at-one) (cc)
