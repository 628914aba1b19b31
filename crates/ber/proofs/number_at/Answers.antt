-- `ber::number_at` meets its contract. Assumes nothing.
use native.Mathlib.Omega.{arith}
use mathlib.Core.Path.{refl}
use Rattle.ber.proofs.BerLaws.{part-told}
use Rattle.ber.proofs.number_at.Goals as goal

pub contents-requires : goal.contents-requires
contents-requires c = omega (arith, part-told 0x02 _ _ _ c.in_ok-p.ensures refl)
