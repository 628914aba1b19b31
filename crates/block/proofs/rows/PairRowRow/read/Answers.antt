-- `PairRow::read` meets its contract. Assumes nothing.
use Rattle.block.specs.Image.{pair_at}
use Rattle.octets.proofs.NumberLaws.{be_at-one}
use Rattle.block.proofs.rows.PairRowRow.read.Goals as goal

pub returns : goal.returns
unfolding pair_at
returns c = rw (be_at-one, be_at-one)
