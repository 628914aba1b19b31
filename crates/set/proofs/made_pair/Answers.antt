-- `set::made_pair` meets its contract. Assumes nothing.
use mathlib.Core.Path.{sym}
use native.Mathlib.Omega.{arith}
use Rattle.block.specs.declared.tables.Table.TheVariants.{Pair as pair}
use Rattle.verdict.proofs.columns.ColumnLaws.{status-made}
use Rattle.set.proofs.made_pair.Goals as goal

pub overflow_cast-result : goal.overflow_cast-result
overflow_cast-result c = omega (arith, c.requires.1)

pub returns : goal.returns
returns c m k = sym (status-made m pair k c.args.v c.requires.0)
