-- `block::cells::live_cells` meets its contract. Assumes nothing.
use Rattle.block.proofs.cells.live_cells.Goals as goal

pub returns-in-PortPriority : goal.returns-in-PortPriority
returns-in-PortPriority c = cc
