-- `verdict::columns::is_status_of` meets its contract. Assumes nothing.
use Rattle.verdict.proofs.columns.is_status_of.Goals as goal

pub returns : goal.returns
returns c = rw c.status_place.ensures
