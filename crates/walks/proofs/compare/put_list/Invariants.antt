-- `walks::compare::put_list` meets its contract. The invariant: what was found so far is written, and what is left is still to be compared. Assumes nothing.
use Prim.Native.Nat.{◌+◌, ◌-◌}
use lib.ListN.{length}
use Rattle.walks.proofs.PassLaws.{Writing}
use Rattle.walks.proofs.compare.put_list.Given as goal

abbrev pub invariant-loop-u : goal.invariant-loop-u
invariant-loop-u l = Writing l.s l.t l.initial.list l.list l.at l.i l.j

abbrev pub decreases-loop-u : goal.decreases-loop-u
decreases-loop-u l = length l.s + length l.t - (l.i + l.j)
