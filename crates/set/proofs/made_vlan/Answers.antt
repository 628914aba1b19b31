-- `set::made_vlan` meets its contract. Assumes nothing.
use mathlib.Core.Path.{sym}
use native.Mathlib.Omega.{arith}
use Rattle.octets.specs.Parts.{zeros}
use Rattle.block.specs.declared.tables.Table.TheVariants.{Vlan as vlan}
use Rattle.verdict.proofs.columns.ColumnLaws.{made-small, status-made}
use Rattle.set.proofs.made_vlan.Goals as goal

pub overflow_sub-result : goal.overflow_sub-result
overflow_sub-result c = omega (arith, made-small c.args.v c.requires.0)

pub overflow_cast-result : goal.overflow_cast-result
overflow_cast-result c = omega (arith, made-small c.args.v c.requires.0)

pub returns : goal.returns
unfolding zeros
returns c =
    let a = c in
    rw c.untagged_made.ensures (sym (status-made a.args.m vlan a.args.key a.args.v a.requires.0))
