-- `batch::groups::groups_in` meets its contract. The invariant: the bindings so far are named. Assumes nothing.
use Rattle.batch.proofs.GroupLaws.{Sofar}
use Rattle.batch.proofs.groups.groups_in.Given as goal

abbrev pub invariant-loop-count : goal.invariant-loop-count
invariant-loop-count l = Sofar l.model l.m l.all l.count l.at
