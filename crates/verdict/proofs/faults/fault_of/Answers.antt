-- `verdict::faults::fault_of` meets its contract: by where the object has its values. Assumes nothing.
use mathlib.Core.Path.{◌≡◌, sym, ap, ◌∙◌}
use Rattle.std.proofs.lemmas.Result.{err_from_is_err_and}
use Rattle.block.specs.Image.{content_of}
use Rattle.answer.specs.Faults.{number_of}
use Rattle.answer.specs.Set.{fault}
use Rattle.verdict.specs.Kept.{meant_with, meant_by_with, full_of}
use Rattle.verdict.specs.declared.faults.Full.{Full}
use Rattle.verdict.proofs.columns.ColumnLaws.{column-of, kept_row, kept-cell}
use Rattle.verdict.proofs.faults.FaultLaws.{full-known, converted-number}
use Rattle.verdict.proofs.faults.fault_of.Goals as goal
use Rattle.verdict.proofs.faults.fault_of.Goals.{in-Some+in_ok-row_fault-in-Some, in-None+in_ok-cell_fault-in-None}

pub returns-in_err-row_fault-in-Some : goal.returns-in_err-row_fault-in-Some
returns-in_err-row_fault-in-Some g c = λ n s k z v.
    let a = c.args in
    let q = c.in_ok-q.q in
    let t = c.in-Some.t in
    let f = c.in_err-row_fault-in-Some.field-0.0 in
    let here = sym c.column_in-holder.ensures ∙ c.in-Some.is in
    let p = err_from_is_err_and c.from_residual-in_err-row_fault-in-Some.result c.from_residual-in_err-row_fault-in-Some.ensures.1 in
    let told : number_of f ≡ fault (content_of a.block.now) (meant_by_with n s a.kept.now) (meant_with n s a.k) =
    rw (c.in_ok-q.was, kept_row s q t here, ← c.of.ensures ∙ ap (λ (f : Full). full_of f t) v ∙ full-known t (content_of a.block.now) (meant_by_with n s a.kept.now))
    (rw c.in_err-row_fault-in-Some.was at (c.row_fault.ensures n s (column-of t q.place here))) in
    rw p.1 (converted-number g.E.From.from_gives n k f p.0 p.2 _ told)

pub returns-in_err-cell_fault-in-None : goal.returns-in_err-cell_fault-in-None
returns-in_err-cell_fault-in-None g c = λ n s k z v.
    let a = c.args in
    let f = c.in_err-cell_fault-in-None.field-0.0 in
    let p = err_from_is_err_and c.from_residual-in_err-cell_fault-in-None.result c.from_residual-in_err-cell_fault-in-None.ensures.1 in
    let told : number_of f ≡ fault (content_of a.block.now) (meant_by_with n s a.kept.now) (meant_with n s a.k) =
    rw (c.in_ok-q.was, kept-cell s c.in_ok-q.q (sym c.column_in-holder.ensures ∙ c.in-None.is))
    (rw c.in_err-cell_fault-in-None.was at (c.cell_fault.ensures n s)) in
    rw p.1 (converted-number g.E.From.from_gives n k f p.0 p.2 _ told)

pub returns : goal.returns
returns g c = λ n s k z v.
    let a = c.args in
    let q = c.in_ok-q.q in
    sym (elim c.match-holder.branch [
      | in-Some+in_ok-row_fault-in-Some w ↦
          let t = w.in-Some.t in
          let here = sym c.column_in-holder.ensures ∙ w.in-Some.is in
          rw (c.in_ok-q.was, kept_row s q t here, ← w.of.ensures ∙ ap (λ (f : Full). full_of f t) v ∙ full-known t (content_of a.block.now) (meant_by_with n s a.kept.now))
          (rw w.in_ok-row_fault-in-Some.was at (w.row_fault.ensures n s (column-of t q.place here)))
      | in-None+in_ok-cell_fault-in-None w ↦
          rw (c.in_ok-q.was, kept-cell s q (sym c.column_in-holder.ensures ∙ w.in-None.is)) (rw w.in_ok-cell_fault-in-None.was at (w.cell_fault.ensures n s))
    ])
