-- `verdict::columns::column_in` meets its contract: by its tests. Assumes nothing.
use Rattle.verdict.proofs.columns.column_in.Goals as goal

pub returns-then-is_column : goal.returns-then-is_column
returns-then-is_column c = rw (← c.is_column.ensures, c.if-is_column.true)

pub returns-then-is_column-2 : goal.returns-then-is_column-2
returns-then-is_column-2 c = rw (← c.is_column.ensures, c.if-is_column.false, ← c.is_column-2.ensures, c.if-is_column-2.true)

pub returns-then-is_column-3 : goal.returns-then-is_column-3
returns-then-is_column-3 c =
    rw (
      ← c.is_column.ensures,
      c.if-is_column.false,
      ← c.is_column-2.ensures,
      c.if-is_column-2.false,
      ← c.is_column-3.ensures,
      c.if-is_column-3.true,
    )

pub returns : goal.returns
returns c =
    rw (
      ← c.is_column.ensures,
      c.if-is_column.false,
      ← c.is_column-2.ensures,
      c.if-is_column-2.false,
      ← c.is_column-3.ensures,
      c.if-is_column-3.false,
    )
