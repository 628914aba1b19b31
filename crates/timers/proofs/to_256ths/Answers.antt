-- `timers::to_256ths` meets its contract. Assumes nothing.
use native.Mathlib.Omega.{arith}
use Rattle.timers.specs.Timers.{converted, refused}
use Rattle.timers.proofs.to_256ths.Goals as goal

pub returns-then-n-gt25599 : goal.returns-then-n-gt25599
returns-then-n-gt25599 c = refused _ _ _ (omega arith)

pub returns : goal.returns
returns c = converted _ _ _ (omega arith)
