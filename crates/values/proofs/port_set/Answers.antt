-- `values::port_set` meets its contract. Assumes nothing.
use Prim.Native.Nat.{◌+◌, ◌/◌}
use native.Mathlib.Omega.{arith}
use Rattle.octets.specs.Ports.{port_octets}
use Rattle.octets.proofs.PortLaws.{length-port-octets}
use Rattle.octets.specs.Parts.{zeros}
use Rattle.values.proofs.HeldLaws.{put-first, put-held}
use Rattle.values.proofs.port_set.Goals as goal

pub invariant_of-result : goal.invariant_of-result
unfolding zeros
invariant_of-result c = let a = c.args in put-held ((a.n + 7) / 8) (port_octets a.n a.set) _ (length-port-octets a.n a.set (omega arith)) (omega (arith, c.requires.1)) c.put_ports.ensures

pub returns : goal.returns
returns c = let a = c.args in rw (put-first ((a.n + 7) / 8) (port_octets a.n a.set) _ _ (length-port-octets a.n a.set (omega arith)) c.put_ports.ensures)
