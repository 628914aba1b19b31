-- `StaticRow::read` meets its contract. Assumes nothing.
use Rattle.block.specs.Image.{static_at}
use Rattle.octets.proofs.NumberLaws.{be_at-one}
use Rattle.block.proofs.rows.StaticRowRow.read.Goals as goal

pub returns : goal.returns
unfolding static_at
returns c = rw (c.be8.ensures, be_at-one)
