-- `changes::open_row` meets its contract: a gap, and the count one greater. Assumes nothing.
use native.Mathlib.Omega.{arith}
use Rattle.block.specs.Rows.{row_opened}
use Rattle.block.proofs.TableLaws.{room-ends}
use Rattle.changes.proofs.open_row.Goals as goal

pub overflow_mul-i : goal.overflow_mul-i
overflow_mul-i c = omega (arith, room-ends c.requires c.be4-n.ensures)

pub overflow_add-at : goal.overflow_add-at
overflow_add-at c = omega (arith, room-ends c.requires c.be4-n.ensures)

pub overflow_mul-n : goal.overflow_mul-n
overflow_mul-n c = omega (arith, room-ends c.requires c.be4-n.ensures)

pub overflow_add-at-2 : goal.overflow_add-at-2
overflow_add-at-2 c = omega (arith, room-ends c.requires c.be4-n.ensures)

pub open_gap-requires : goal.open_gap-requires
open_gap-requires c = (omega (arith, room-ends c.requires c.be4-n.ensures), omega (arith, room-ends c.requires c.be4-n.ensures))

pub returns : goal.returns
unfolding row_opened
returns c = cc
