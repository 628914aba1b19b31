-- `set::phase_of` meets its contract: by its tests, one after the other. Assumes nothing.
use mathlib.Core.Path.{sym, ◌∙◌}
use borrow.Author.Tests.{eq-eqb, ne_eqb}
use Rattle.verdict.proofs.columns.ColumnLaws.{kept_row, kept-cell}
use Rattle.set.proofs.phase_of.Goals as goal

pub returns-then-place-status_place : goal.returns-then-place-status_place
returns-then-place-status_place c s =
    rw (
      kept_row s c.args.q _ (sym c.column_in-holder.ensures ∙ c.in-Some.is),
      ne_eqb _ _ (λ p. c.if-place-status_place.true (p ∙ sym c.status_place.ensures)),
    )

pub returns-then-removes_row : goal.returns-then-removes_row
returns-then-removes_row c s =
    rw (
      kept_row s c.args.q _ (sym c.column_in-holder.ensures ∙ c.in-Some.is),
      eq-eqb _ _ (c.if-place-status_place.false ∙ c.status_place.ensures),
      ← c.removes_row.ensures,
      c.if-removes_row.true,
    )

pub returns-else-removes_row : goal.returns-else-removes_row
returns-else-removes_row c s =
    rw (
      kept_row s c.args.q _ (sym c.column_in-holder.ensures ∙ c.in-Some.is),
      eq-eqb _ _ (c.if-place-status_place.false ∙ c.status_place.ensures),
      ← c.removes_row.ensures,
      c.if-removes_row.false,
    )

pub returns-in-None : goal.returns-in-None
returns-in-None c s = rw (kept-cell s c.args.q (sym c.column_in-holder.ensures ∙ c.in-None.is))
