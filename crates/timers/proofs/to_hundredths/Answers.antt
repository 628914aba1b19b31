-- `timers::to_hundredths` meets its contract. Assumes nothing.
use native.Mathlib.Omega.{arith}
use Rattle.timers.specs.Timers.{converted, refused}
use Rattle.timers.proofs.to_hundredths.Goals as goal

pub returns-then-b-gt65535 : goal.returns-then-b-gt65535
returns-then-b-gt65535 c = refused _ _ _ (omega arith)

pub returns : goal.returns
returns c = converted _ _ _ (omega arith)
