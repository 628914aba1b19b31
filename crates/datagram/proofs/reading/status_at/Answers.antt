-- `datagram::reading::status_at` meets its contract. Assumes nothing.
use native.Mathlib.Omega.{arith}
use mathlib.Core.Path.{refl}
use Rattle.ber.proofs.BerLaws.{number-told}
use Rattle.datagram.proofs.reading.status_at.Goals as goal

pub contents-requires : goal.contents-requires
contents-requires c = omega (arith, number-told _ _ _ c.in_ok-p.ensures refl)
