-- `block::tables::has_room` meets its contract. Assumes nothing.
use Rattle.block.proofs.tables.has_room.Goals as goal

pub returns : goal.returns
returns c = rw (c.row_count.ensures, c.standing_of-at.ensures)
