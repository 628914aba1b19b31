-- `datagram::reading::content_in` meets its contract. Assumes nothing.
use native.Mathlib.Omega.{arith}
use Rattle.ber.proofs.BerLaws.{whole-told}
use Rattle.datagram.proofs.reading.content_in.Goals as goal

pub contents-requires : goal.contents-requires
contents-requires c = omega (arith, whole-told _ _ _ c.in_ok-field.ensures)

pub overflow_add-field : goal.overflow_add-field
overflow_add-field c = omega (arith, whole-told _ _ _ c.in_ok-field.ensures)
