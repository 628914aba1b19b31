-- `changes::exchange_status` meets its contract. Assumes nothing.
use Rattle.changes.proofs.exchange_status.Goals as goal

pub returns : goal.returns
returns c = cc
