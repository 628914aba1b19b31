-- `octets::ports::put_ports` meets its contract. Assumes nothing.
use native.Mathlib.Omega.{arith}
use Rattle.octets.proofs.PortLaws.{port-octets-is}
use Rattle.octets.proofs.ports.put_ports.Goals as goal

pub returns : goal.returns
returns c =
    let a = c.args in
    cc (port-octets-is a.n a.set (omega arith))
