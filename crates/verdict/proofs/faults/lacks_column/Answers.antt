-- `verdict::faults::lacks_column` meets its contract: by the table. Assumes nothing.
use mathlib.Core.Path.{◌≡◌}
use mathlib.Core.Bool.{true, false, not, ◌&&◌}
use Rattle.block.specs.declared.tables.Table.TheVariants.{Pair as pair}
use Rattle.answer.specs.Tables.{makes}
use Rattle.verdict.specs.Kept.{status_meant}
use Rattle.verdict.proofs.faults.lacks_column.Goals as goal

pub returns-then-makes_row-there : goal.returns-then-makes_row-there
returns-then-makes_row-there g c =
    let a = c.args in
    let told = c.in-Pair.is in
    let makes-absent : makes pair (status_meant pair a.v) && not a.there ≡ true = rw (c.makes_row.ensures, told) at c.if-makes_row-there.true in
    rw (c.is_done.ensures, told, makes-absent)

pub returns-in-Vlan : goal.returns-in-Vlan
returns-in-Vlan g c = rw c.in-Vlan.is

pub returns-in-Static : goal.returns-in-Static
returns-in-Static g c = rw c.in-Static.is

pub returns-else-makes_row-there : goal.returns-else-makes_row-there
returns-else-makes_row-there g c =
    let a = c.args in
    let told = c.in-Pair.is in
    let makes_none : makes pair (status_meant pair a.v) && not a.there ≡ false = rw (c.makes_row.ensures, told) at c.if-makes_row-there.false in
    rw (told, makes_none)
