-- `datagram::reading::pdu_taken` meets its contract. Assumes nothing.
use native.Mathlib.Omega.{arith}
use Rattle.datagram.proofs.ReadLaws.{taken-low, taken-two, taken-other}
use Rattle.datagram.proofs.reading.pdu_taken.Goals as goal

pub returns-then-tag-lt-PDU_TAG : goal.returns-then-tag-lt-PDU_TAG
returns-then-tag-lt-PDU_TAG c = taken-low _ _ (omega arith)

pub returns-then-kind-eq-RESPONSE : goal.returns-then-kind-eq-RESPONSE
returns-then-kind-eq-RESPONSE c = taken-two _ _ (omega arith) c.if-kind-eq-RESPONSE.true

pub returns : goal.returns
returns c = taken-other _ _ (omega arith) c.if-kind-eq-RESPONSE.false c.kind_allowed.ensures
