-- `verdict::columns::is_misplaced` meets its contract: by the table. Assumes nothing.
use mathlib.Core.Path.{sym}
use Rattle.verdict.proofs.columns.ColumnLaws.{misplaced-vlan}
use Rattle.verdict.proofs.columns.is_misplaced.Goals as goal

pub returns-in-Vlan : goal.returns-in-Vlan
returns-in-Vlan c =
    let a = c.args in
    rw (c.states_vlan.ensures, c.makes_row.ensures, c.in-Vlan.is) (sym (misplaced-vlan a.v a.there))

pub returns-in-Static : goal.returns-in-Static
returns-in-Static c = rw c.in-Static.is

pub returns-in-Pair : goal.returns-in-Pair
returns-in-Pair c = rw c.in-Pair.is
