-- `verdict::columns::is_column` meets its contract. Assumes nothing.
use Rattle.verdict.proofs.columns.is_column.Goals as goal

pub returns : goal.returns
returns c = rw (c.status_place.ensures, c.first_written.ensures)
