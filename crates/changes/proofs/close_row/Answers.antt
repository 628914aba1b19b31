-- `changes::close_row` meets its contract: a gap closed, and the count one less. Assumes nothing.
use native.Mathlib.Omega.{arith}
use Rattle.block.specs.Rows.{row_closed}
use Rattle.block.proofs.TableLaws.{row_ends}
use Rattle.changes.proofs.close_row.Goals as goal

pub overflow_mul-i : goal.overflow_mul-i
overflow_mul-i c = omega (arith, row_ends c.requires c.be4-n.ensures)

pub overflow_add-at : goal.overflow_add-at
overflow_add-at c = omega (arith, row_ends c.requires c.be4-n.ensures)

pub overflow_mul-n : goal.overflow_mul-n
overflow_mul-n c = omega (arith, row_ends c.requires c.be4-n.ensures)

pub overflow_add-at-2 : goal.overflow_add-at-2
overflow_add-at-2 c = omega (arith, row_ends c.requires c.be4-n.ensures)

pub close_gap-requires : goal.close_gap-requires
close_gap-requires c = (omega (arith, row_ends c.requires c.be4-n.ensures), omega (arith, row_ends c.requires c.be4-n.ensures))

pub returns : goal.returns
unfolding row_closed
returns c = cc
