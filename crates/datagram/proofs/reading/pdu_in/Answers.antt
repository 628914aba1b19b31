-- `datagram::reading::pdu_in` meets its contract. Assumes nothing.
use native.Mathlib.Omega.{arith}
use mathlib.Core.Path.{sym, ◌∙◌}
use Rattle.datagram.proofs.ReadLaws.{taken-above}
use Rattle.datagram.proofs.reading.pdu_in.Goals as goal

pub overflow_sub-result : goal.overflow_sub-result
overflow_sub-result c = omega (arith, taken-above _ _ (sym c.pdu_taken.ensures ∙ c.if-not-pdu_taken.false))
