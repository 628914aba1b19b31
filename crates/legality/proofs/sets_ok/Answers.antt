-- `legality::sets_ok` meets its contract. Assumes nothing.
use native.Mathlib.Omega.{arith}
use Rattle.legality.proofs.LegalLaws.{port-set}
use Rattle.legality.proofs.sets_ok.Goals as goal

pub returns : goal.returns
returns c =
    let a = c.args in
    rw (port-set a.m a.a (omega arith), port-set a.m a.b (omega arith), port-set a.m a.c (omega arith)) (cc)
