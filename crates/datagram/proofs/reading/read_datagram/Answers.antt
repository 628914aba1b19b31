-- `datagram::reading::read_datagram` meets its contract. Assumes nothing.
use native.Mathlib.Omega.{arith}
use mathlib.Core.Path.{refl}
use Rattle.datagram.proofs.ReadLaws.{opening-told}
use Rattle.datagram.proofs.reading.read_datagram.Goals as goal

pub pdu_of-requires : goal.pdu_of-requires
pdu_of-requires c = omega (arith, opening-told _ _ c.in_ok-opening.ensures refl)
