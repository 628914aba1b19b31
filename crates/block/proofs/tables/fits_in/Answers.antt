-- `block::tables::fits_in` meets its contract. Assumes nothing.
use Rattle.block.proofs.tables.fits_in.Goals as goal

pub returns : goal.returns
returns c = rw (c.row_count.ensures, c.room_in.ensures)
