-- `sending::version_field` meets its contract. Assumes nothing.
use native.Mathlib.Omega.{arith}
use Rattle.sending.proofs.SendLaws.{version-ber}
use Rattle.sending.proofs.version_field.Goals as goal

pub returns : goal.returns
returns c =
    let w = c.requires in
    rw (← version-ber) (record { starts = omega (arith, w.0); filled = c.copy_in.ensures }, omega arith)
