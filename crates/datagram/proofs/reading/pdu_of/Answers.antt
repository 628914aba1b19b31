-- `datagram::reading::pdu_of` meets its contract. Assumes nothing.
use native.Mathlib.Omega.{arith}
use Rattle.std.proofs.Common.{rules}
use mathlib.Core.Path.{◌≡◌, refl, ◌∙◌}
use Rattle.std.specs.Prelude.{Err}
use Rattle.datagram.proofs.ReadLaws.{head-told, pdu-refused, pdu-leftover, pdu-whole}
use Rattle.datagram.proofs.reading.pdu_of.Goals as goal

pub overflow_add-list : goal.overflow_add-list
overflow_add-list c = omega (arith, head-told _ _ _ _ c.in_ok-head.ensures refl)

pub returns-in_err-listed : goal.returns-in_err-listed
returns-in_err-listed c =
    let k : c.from_residual-in_err-listed.result ≡ Err c.in_err-listed.field-0.0 = search rules in
    k ∙ pdu-refused _ _ c.in_ok-head.ensures c.in_err-listed.ensures

pub returns-then-list-pdu : goal.returns-then-list-pdu
returns-then-list-pdu c = pdu-whole _ _ c.in_ok-head.ensures c.in_ok-listed.ensures c.if-list-pdu.true

pub returns : goal.returns
returns c = pdu-leftover _ _ c.in_ok-head.ensures c.in_ok-listed.ensures c.if-list-pdu.false

pub invariant_of-list : goal.invariant_of-list
invariant_of-list c = record { within = omega (arith, head-told _ _ _ _ c.in_ok-head.ensures refl); short = omega (arith, head-told _ _ _ _ c.in_ok-head.ensures refl) }
