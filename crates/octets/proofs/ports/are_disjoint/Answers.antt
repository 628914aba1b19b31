-- `octets::ports::are_disjoint` meets its contract. Assumes nothing.
use Rattle.octets.specs.Ports.{disjoint}
use Rattle.octets.proofs.ports.are_disjoint.Goals as goal
use borrow.Author.Rules.{rules}

pub returns : goal.returns
unfolding disjoint
returns c = search rules
