-- `block::cells::cell_of_key` meets its contract. Assumes nothing.
use Rattle.block.proofs.cells.cell_of_key.Goals as goal

pub returns-in-Port : goal.returns-in-Port
returns-in-Port c = rw c.in-Port.is c.less.ensures

pub returns-in-PortPriority : goal.returns-in-PortPriority
returns-in-PortPriority c = rw c.in-PortPriority.is c.less-in-PortPriority.ensures
