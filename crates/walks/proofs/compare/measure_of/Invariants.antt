-- `walks::compare::measure_of` meets its contract. The invariant: what was found so far is counted, and what is left is still to be compared. Assumes nothing.
use Prim.Native.Nat.{◌+◌, ◌-◌}
use lib.ListN.{length}
use Rattle.walks.proofs.PassLaws.{Measuring}
use Rattle.walks.proofs.compare.measure_of.Given as goal

abbrev pub invariant-loop-u : goal.invariant-loop-u
invariant-loop-u l = Measuring l.s l.t l.totals l.i l.j

abbrev pub decreases-loop-u : goal.decreases-loop-u
decreases-loop-u l = length l.s + length l.t - (l.i + l.j)
