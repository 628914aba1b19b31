-- `identifiers::index::limit_of` meets its contract. Assumes nothing.
use borrow.Author.Rules.{rules}
use Rattle.names.specs.Index.{weight}
use Rattle.identifiers.proofs.index.limit_of.Goals as goal

pub returns-in-Scalar : goal.returns-in-Scalar
unfolding weight
returns-in-Scalar c = search rules

pub returns-in-PortPriority : goal.returns-in-PortPriority
unfolding weight
returns-in-PortPriority c = search rules

pub returns-in-Static : goal.returns-in-Static
unfolding weight
returns-in-Static c = search rules

pub returns-in-Pair : goal.returns-in-Pair
unfolding weight
returns-in-Pair c = search rules
