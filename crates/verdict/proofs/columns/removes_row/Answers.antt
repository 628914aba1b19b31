-- `verdict::columns::removes_row` meets its contract: by the table. Assumes nothing.
use mathlib.Core.Path.{sym}
use Rattle.verdict.proofs.columns.ColumnLaws.{removes-vlan, removes-static, removes-pair}
use Rattle.verdict.proofs.columns.removes_row.Goals as goal

pub returns-in-Vlan : goal.returns-in-Vlan
returns-in-Vlan c =
    rw (c.makes_row.ensures, c.states_vlan.ensures, c.in-Vlan.is)
    (sym (removes-vlan c.args.v))

pub returns-in-Static : goal.returns-in-Static
returns-in-Static c = rw c.in-Static.is (sym (removes-static c.args.v))

pub returns-in-Pair : goal.returns-in-Pair
returns-in-Pair c = rw c.in-Pair.is (sym (removes-pair c.args.v))
