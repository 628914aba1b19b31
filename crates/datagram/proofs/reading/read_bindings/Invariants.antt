-- `datagram::reading::read_bindings` meets its contract. The invariant: the bindings read, before those that are still to be read, are the whole. Assumes nothing.
use Prim.Native.Nat.{◌-◌}
use Rattle.datagram.proofs.LoopLaws.{Sofar}
use Rattle.datagram.proofs.reading.read_bindings.Given as goal

abbrev pub invariant-loop-at : goal.invariant-loop-at
invariant-loop-at l = Sofar l.kind l.e.octets.now l.from l.e.end l.bindings l.count l.at

abbrev pub decreases-loop-at : goal.decreases-loop-at
decreases-loop-at l = 16 - l.count
