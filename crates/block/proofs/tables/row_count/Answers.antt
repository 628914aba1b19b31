-- `block::tables::row_count` meets its contract. Assumes nothing.
use native.Mathlib.Omega.{arith}
use Rattle.block.proofs.StandingLaws.{stands}
use Rattle.block.proofs.ReadLaws.{many-in}
use Rattle.block.proofs.tables.row_count.Goals as goal

pub be4-requires : goal.be4-requires
be4-requires c = rw c.standing_of-at.ensures (omega (arith, stands c.args.t))

pub returns : goal.returns
returns c =
    let a = c.args in
    rw (many-in a.block.now a.t, ← c.standing_of-at.ensures) c.be4.ensures
