-- `verdict::faults::row_fault` meets its contract: the status column's number, Egress and Forbidden, and the other columns. Assumes nothing.
use mathlib.Core.Path.{sym, ◌∙◌}
use Rattle.verdict.proofs.faults.StatusLaws.{makes-row, removes-row, fills-row, present-key}
use Rattle.verdict.proofs.faults.FaultLaws.{status-fault, attribute-fault, clash-at}
use Rattle.verdict.proofs.faults.row_fault.Goals as goal

pub returns-then-place-status_place : goal.returns-then-place-status_place
returns-then-place-status_place g c n s h =
    rw (
      status-fault _ _ _ _ _ _ _ _ _ (c.if-place-status_place.true ∙ c.status_place.ensures),
      fills-row n _ s,
      present-key,
      ← c.has_row-there.ensures,
      ← c.lacks_column.ensures,
      ← c.is_misplaced.ensures,
      ← c.makes_row.ensures,
    )
    c.status_fault.ensures

pub returns-then-place : goal.returns-then-place
returns-then-place g c n s h =
    rw (
      attribute-fault _ _ _ _ _ _ _ _ _ (λ p. c.if-place-status_place.false (p ∙ sym c.status_place.ensures)),
      clash-at _ _ _ _ _ _ _ _ h,
      makes-row n _ s,
      removes-row n _ s,
      present-key,
      c.if-place.true,
      ← c.has_row-there.ensures,
      ← c.is_done-made.ensures,
      ← c.is_done-removed.ensures,
      ← c.shares_port.ensures n _ s,
    )
    c.attribute_fault.ensures

pub returns : goal.returns
returns g c n s h =
    rw (
      attribute-fault _ _ _ _ _ _ _ _ _ (λ p. c.if-place-status_place.false (p ∙ sym c.status_place.ensures)),
      clash-at _ _ _ _ _ _ _ _ h,
      makes-row n _ s,
      removes-row n _ s,
      present-key,
      c.if-place.false,
      ← c.has_row-there.ensures,
      ← c.is_done-made.ensures,
      ← c.is_done-removed.ensures,
    )
    c.attribute_fault-2.ensures
