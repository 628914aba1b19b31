-- `set::pair_with` meets its contract: its state, or its bridge number. Assumes nothing.
use native.Mathlib.Omega.{arith}
use borrow.Author.Tests.{ne_eqb}
use Rattle.names.specs.Places.{pair_bridge_state}
use Rattle.verdict.proofs.columns.ColumnLaws.{pair-stays}
use Rattle.set.proofs.pair_with.Goals as goal

pub overflow_cast-result : goal.overflow_cast-result
overflow_cast-result c = omega (arith, c.requires.0)

pub returns-then-q-eq-PAIR_BRIDGE_STATE : goal.returns-then-q-eq-PAIR_BRIDGE_STATE
returns-then-q-eq-PAIR_BRIDGE_STATE c m xs =
    let a = c in
    rw (c.if-q-eq-PAIR_BRIDGE_STATE.true, pair-stays a.args.q.value (a.requires.1 c.if-q-eq-PAIR_BRIDGE_STATE.true))

pub overflow_cast-result-2 : goal.overflow_cast-result-2
overflow_cast-result-2 c = omega (arith, c.requires.0)

pub returns : goal.returns
returns c m xs = rw (ne_eqb c.args.q.place pair_bridge_state c.if-q-eq-PAIR_BRIDGE_STATE.false)
