-- `datagram::reading::opening_of` meets its contract. Assumes nothing.
use native.Mathlib.Omega.{arith}
use mathlib.Core.Path.{refl}
use Rattle.ber.proofs.BerLaws.{part-told, number-told}
use Rattle.datagram.proofs.reading.opening_of.Goals as goal

pub contents-requires : goal.contents-requires
contents-requires c = omega (arith, part-told 0x30 _ _ _ c.in_ok-message.ensures refl, number-told _ _ _ c.in_ok-version.ensures refl)

pub overflow_add-version : goal.overflow_add-version
overflow_add-version c = omega (arith, part-told 0x30 _ _ _ c.in_ok-message.ensures refl, number-told _ _ _ c.in_ok-version.ensures refl)

pub pdu_in-requires : goal.pdu_in-requires
pdu_in-requires c = omega (arith, part-told 0x30 _ _ _ c.in_ok-message.ensures refl, part-told 0x04 _ _ _ c.in_ok-community.ensures refl)

pub overflow_add-e : goal.overflow_add-e
overflow_add-e c = omega (arith, part-told 0x30 _ _ _ c.in_ok-message.ensures refl)

pub invariant_of-e : goal.invariant_of-e
invariant_of-e c = record { within = omega (arith, part-told 0x30 _ _ _ c.in_ok-message.ensures refl); short = omega (arith, part-told 0x30 _ _ _ c.in_ok-message.ensures refl) }
