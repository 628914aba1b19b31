-- `changes::uncount` meets its contract, table by table. Assumes nothing.
use Rattle.block.specs.Tables.{uncounted}
use Rattle.changes.proofs.uncount.Goals as goal

pub vlan_status-was-requires : goal.vlan_status-was-requires
vlan_status-was-requires c =
    (c.requires.0, rw c.in-Vlan.is at c.requires.1)

pub returns-in-Vlan : goal.returns-in-Vlan
unfolding uncounted
returns-in-Vlan c = rw c.in-Vlan.is cc

pub returns-in-Static : goal.returns-in-Static
unfolding uncounted
returns-in-Static c = rw c.in-Static.is

pub returns-in-Pair : goal.returns-in-Pair
unfolding uncounted
returns-in-Pair c = rw c.in-Pair.is
