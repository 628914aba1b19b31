-- `set::static_with` meets its contract: its status, or its ports. Assumes nothing.
use native.Mathlib.Omega.{arith}
use borrow.Author.Tests.{ne_eqb}
use Rattle.names.specs.Places.{static_state}
use Rattle.verdict.proofs.columns.ColumnLaws.{static_stays}
use Rattle.set.proofs.static_with.Goals as goal

pub overflow_cast-result : goal.overflow_cast-result
overflow_cast-result c = omega (arith, (c.requires c.if-q-eq-STATIC_STATE.true).1)

pub returns-then-q-eq-STATIC_STATE : goal.returns-then-q-eq-STATIC_STATE
returns-then-q-eq-STATIC_STATE c m xs =
    let a = c in
    rw (c.if-q-eq-STATIC_STATE.true, static_stays a.args.q.value (a.requires c.if-q-eq-STATIC_STATE.true).0)

pub returns : goal.returns
returns c m xs = rw (ne_eqb c.args.q.place static_state c.if-q-eq-STATIC_STATE.false)
