-- `identifiers::index::in_order` meets its contract. Assumes nothing.
use native.Mathlib.Nat.{div-one}
use Rattle.names.specs.Index.{digits, weight}
use Rattle.identifiers.proofs.index.in_order.Goals as goal

pub returns-in-Pair : goal.returns-in-Pair
unfolding digits weight
returns-in-Pair c = rw (c.in-Pair.is, div-one)
