-- `block::reads::timer` meets its contract. Assumes nothing.
use native.Mathlib.Omega.{arith}
use Rattle.block.proofs.TimerLaws.{timer-place}
use Rattle.block.proofs.reads.timer.Goals as goal

pub cell-requires : goal.cell-requires
cell-requires c = (c.requires.0, omega (arith, c.cell_of.ensures, (timer-place c.args.place c.requires.1).1))
