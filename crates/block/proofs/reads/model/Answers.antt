-- `block::reads::model` meets its contract. Assumes nothing.
use native.Mathlib.Omega.{arith}
use Rattle.octets.proofs.NumberLaws.{be_at-one}
use Rattle.block.proofs.ReadLaws.{edition-is, device-is}
use Rattle.block.proofs.reads.model.Goals as goal

pub overflow_cast-result : goal.overflow_cast-result
overflow_cast-result c = omega (arith, c.type_inv.block 24)

pub overflow_cast-result-2 : goal.overflow_cast-result-2
overflow_cast-result-2 c = omega (arith, c.type_inv.block 25)

pub returns : goal.returns
returns c =
    let b = c.args.block.now in
    rw (c.ports.ensures, edition-is b, device-is b, be_at-one, be_at-one)
