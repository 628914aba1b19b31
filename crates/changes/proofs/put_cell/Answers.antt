-- `changes::put_cell` meets its contract. Assumes nothing.
use native.Mathlib.Omega.{arith}
use Rattle.block.proofs.ChangeLaws.{image-cell}
use Rattle.changes.proofs.put_cell.Goals as goal

pub returns : goal.returns
returns c k s e =
    let a = c.args in
    cc (image-cell s a.k a.v (omega arith))
