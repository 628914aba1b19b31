-- `verdict::columns::is_attribute_of` meets its contract. Assumes nothing.
use Rattle.verdict.proofs.columns.is_attribute_of.Goals as goal

pub returns : goal.returns
returns c = rw (c.status_place.ensures, c.is_column.ensures)
