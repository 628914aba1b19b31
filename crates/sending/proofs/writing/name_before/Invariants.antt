-- `sending::writing::name_before` meets its contract. The invariant: the sub-ids from i on are put, and q is where they start. Assumes nothing.
use Rattle.names.specs.SubIds.{subids}
use Rattle.sending.proofs.WriteLaws.{Named}
use Rattle.sending.proofs.writing.name_before.Given as goal

abbrev pub invariant-loop-i : goal.invariant-loop-i
invariant-loop-i l = Named (subids l.name) l.initial.out l.out l.p l.q l.i
