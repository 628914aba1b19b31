-- `batch::room::first_short` meets its contract. By the tables, in their order. Assumes nothing.
use Rattle.batch.proofs.room.first_short.Goals as goal

pub returns-then-is_short : goal.returns-then-is_short
returns-then-is_short c = rw (← c.is_short.ensures, c.if-is_short.true)

pub returns-then-is_short-2 : goal.returns-then-is_short-2
returns-then-is_short-2 c = rw (← c.is_short.ensures, c.if-is_short.false, ← c.is_short-2.ensures, c.if-is_short-2.true)

pub returns-then-is_short-3 : goal.returns-then-is_short-3
returns-then-is_short-3 c =
    rw (
      ← c.is_short.ensures,
      c.if-is_short.false,
      ← c.is_short-2.ensures,
      c.if-is_short-2.false,
      ← c.is_short-3.ensures,
      c.if-is_short-3.true,
    )

pub returns : goal.returns
returns c =
    rw (
      ← c.is_short.ensures,
      c.if-is_short.false,
      ← c.is_short-2.ensures,
      c.if-is_short-2.false,
      ← c.is_short-3.ensures,
      c.if-is_short-3.false,
    )
