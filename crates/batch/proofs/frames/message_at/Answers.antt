-- `batch::frames::message_at` meets its contract. A frame that is not wrong is whole. Assumes nothing.
use native.Mathlib.Omega.{arith}
use Rattle.batch.proofs.TurnLaws.{goes_on}
use Rattle.batch.proofs.frames.message_at.Goals as goal

pub frame_at-requires : goal.frame_at-requires
frame_at-requires c = omega (arith, c.requires.0)

pub returns-in-Ok : goal.returns-in-Ok
returns-in-Ok c = c.in-Ok.ensures

pub returns-in-Err : goal.returns-in-Err
returns-in-Err c =
    let a = c.args in
    absurd (goes_on a.batch.now a.at _ c.requires c.in-Err.ensures)
