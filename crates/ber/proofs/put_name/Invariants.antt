-- `ber::put_name` meets its contract. The invariant: what is left to put makes of the room what all makes of the room at entry. Assumes nothing.
use Rattle.ber.proofs.NameLaws.{Put}
use Rattle.ber.proofs.put_name.Given as goal

abbrev pub invariant-loop-x : goal.invariant-loop-x
invariant-loop-x l = Put l.contents l.initial.room l.room l.first l.acc l.w l.x-index
