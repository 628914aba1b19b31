-- `legality::static_ok` meets its contract. Assumes nothing.
use native.Mathlib.Omega.{arith}
use Rattle.block.specs.Valid.{static_ok}
use Rattle.legality.proofs.LegalLaws.{port-set}
use Rattle.legality.proofs.static_ok.Goals as goal

pub returns : goal.returns
unfolding static_ok
returns c =
    let a = c.args in
    rw (port-set a.m a.r.allowed (omega arith)) (cc)
