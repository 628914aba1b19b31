-- `batch::room::is_short` meets its contract. More rows are needed than the table has room for. Assumes nothing.
use Rattle.batch.proofs.room.is_short.Goals as goal

pub returns : goal.returns
returns c = rw (c.standing_of-at.ensures, c.needed.ensures)
