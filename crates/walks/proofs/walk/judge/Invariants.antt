-- `walks::walk::judge` meets its contract. The invariant: what is left of the walk decides the answer; the name before is within the octets. Assumes nothing.
use Prim.Native.Nat.{◌+◌, ◌-◌, ◌≤◌}
use lib.ListN.{length}
use Rattle.octets.specs.Parts.{part}
use Rattle.names.specs.SubIds.{subids}
use Rattle.walks.proofs.WalkLaws.{Sofar}
use Rattle.walks.proofs.walk.judge.Given as goal

abbrev pub invariant-loop-at : goal.invariant-loop-at
invariant-loop-at l = (l.name + l.size ≤ length l.s) × Sofar l.s (subids (part l.s l.name l.size)) l.at

abbrev pub decreases-loop-at : goal.decreases-loop-at
decreases-loop-at l = length l.s - l.at
