-- `datagram::reading::binding_at` meets its contract. Assumes nothing.
use native.Mathlib.Omega.{arith}
use mathlib.Core.Path.{refl}
use Rattle.ber.proofs.BerLaws.{part-told}
use Rattle.datagram.proofs.reading.binding_at.Goals as goal

pub overflow_add-inner : goal.overflow_add-inner
overflow_add-inner c = omega (arith, part-told 0x30 _ _ _ c.in_ok-p.ensures refl)

pub invariant_of-inner : goal.invariant_of-inner
invariant_of-inner c = record { within = omega (arith, part-told 0x30 _ _ _ c.in_ok-p.ensures refl); short = omega (arith, part-told 0x30 _ _ _ c.in_ok-p.ensures refl) }
