-- `verdict::columns::makes_row` meets its contract: by the table. Assumes nothing.
use mathlib.Core.Path.{sym}
use Rattle.verdict.proofs.columns.ColumnLaws.{makes-vlan, makes-static, makes-pair}
use Rattle.verdict.proofs.columns.makes_row.Goals as goal

pub returns-in-Vlan : goal.returns-in-Vlan
returns-in-Vlan c = rw c.in-Vlan.is (sym (makes-vlan c.args.v))

pub returns-in-Static : goal.returns-in-Static
returns-in-Static c = rw c.in-Static.is (sym (makes-static c.args.v))

pub returns-in-Pair : goal.returns-in-Pair
returns-in-Pair c = rw c.in-Pair.is (sym (makes-pair c.args.v))
