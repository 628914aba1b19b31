-- `batch::room::is_new` meets its contract. By the table, by the bindings behind it, and by the block. Assumes nothing.
use Rattle.block.specs.Image.{content_of}
use Rattle.block.specs.Tables.{rows_of}
use Rattle.batch.proofs.RoomLaws.{there, none-named, other-table, named-later, not-later}
use Rattle.batch.proofs.room.is_new.Goals as goal

pub returns-in-None : goal.returns-in-None
returns-in-None c =
    let a = c.args in
    rw c.in-None.is (none-named (rows_of a.t (content_of a.block.now)) a.t a.behind.now)

pub returns-then-row-column : goal.returns-then-row-column
returns-then-row-column c =
    let a = c.args in
    rw c.in-Some.is (other-table (rows_of a.t (content_of a.block.now)) a.t a.behind.now c.in-Some.row c.first_column-column.ensures c.if-row-column.true)

pub returns-then-is_among : goal.returns-then-is_among
returns-then-is_among c =
    let a = c.args in
    rw c.in-Some.is (named-later (rows_of a.t (content_of a.block.now)) a.t a.behind.now c.in-Some.row c.first_column-column.ensures c.if-row-column.false c.is_among.ensures c.if-is_among.true)

pub returns-else-is_among : goal.returns-else-is_among
returns-else-is_among c =
    let a = c.args in
    rw c.in-Some.is (not-later (rows_of a.t (content_of a.block.now)) a.t a.behind.now c.in-Some.row c.first_column-column.ensures c.if-row-column.false c.is_among.ensures c.if-is_among.false (there a.block.now a.t _ c.has_row.ensures))
