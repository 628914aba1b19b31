-- `set::made_static` meets its contract. Assumes nothing.
use mathlib.Core.Path.{sym}
use native.Mathlib.Omega.{arith}
use Rattle.block.specs.declared.tables.Table.TheVariants.{Static as static}
use Rattle.verdict.proofs.columns.ColumnLaws.{status-made}
use Rattle.set.proofs.made_static.Goals as goal

pub overflow_cast-result : goal.overflow_cast-result
overflow_cast-result c = omega (arith, c.requires.1)

pub returns : goal.returns
returns c k =
    let a = c in
    rw c.ports_to.ensures (sym (status-made a.args.m static k a.args.v a.requires.0))
