-- `ber::sub_ids` meets its contract. The invariant: the sub-ids counted, with those that are left, are all. Assumes nothing.
use Rattle.ber.proofs.NameLaws.{Counted}
use Rattle.ber.proofs.sub_ids.Given as goal

abbrev pub invariant-loop-x : goal.invariant-loop-x
invariant-loop-x l = Counted l.contents l.first l.acc l.count l.x-index
