-- `sending::bound_size` meets its contract. Assumes nothing.
use native.Mathlib.Omega.{arith}
use Rattle.sending.proofs.bound_size.Goals as goal

pub returns : goal.returns
returns c = omega (arith, c.bound_before.ensures.starts)
