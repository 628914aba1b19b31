-- `batch::reads::set_in` meets its contract. By the kind, then by the reading. Assumes nothing.
use native.Mathlib.Omega.{arith}
use mathlib.Core.Path.{refl}
use Rattle.std.proofs.lemmas.Result.{err_from_is_err_and}
use Rattle.message.proofs.FormLaws.{kind_fits}
use Rattle.message.proofs.ReadLaws.{held, held-refused}
use Rattle.batch.proofs.ReadingLaws.{set-cut, set_other, set-refused, set-taken}
use Rattle.batch.proofs.reads.set_in.Goals as goal

pub bounds-m-3 : goal.bounds-m-3
bounds-m-3 c = omega (arith, kind_fits c.args.m.now 0 c.in_ok-checked_at.ensures refl)

pub returns-then-m-ne-SET : goal.returns-then-m-ne-SET
returns-then-m-ne-SET c = set_other c.args.m.now c.in_ok-checked_at.ensures c.if-m-ne-SET.true

pub returns-in_err-checked_at : goal.returns-in_err-checked_at
returns-in_err-checked_at c =
    let p = err_from_is_err_and c.from_residual.result c.from_residual.ensures.1 in
    rw (p.1, p.2) (set-cut c.args.m.now c.in_err-checked_at.ensures)

pub returns-in_err-outcome_of : goal.returns-in_err-outcome_of
returns-in_err-outcome_of c =
    let s = c.args.m.now in
    let p = err_from_is_err_and c.from_residual-in_err-outcome_of.result c.from_residual-in_err-outcome_of.ensures.1 in
    rw (p.1, p.2) (set-refused s c.in_ok-checked_at.ensures c.if-m-ne-SET.false (held-refused s c.in_err-outcome_of.ensures).0)

pub returns : goal.returns
returns c =
    let s = c.args.m.now in
    set-taken s c.in_ok-checked_at.ensures c.if-m-ne-SET.false (held s c.in_ok-outcome_of.ensures refl).reading
