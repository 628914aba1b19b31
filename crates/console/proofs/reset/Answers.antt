-- `console::reset` meets its contract. Assumes nothing.
use native.Mathlib.Omega.{arith}
use borrow.Author.Tests.{ne_eqb, eq-eqb}
use Rattle.console.proofs.CallLaws.{cleared}
use Rattle.console.proofs.reset.Goals as goal

pub returns-then-state-ne-STATE_OCTETS : goal.returns-then-state-ne-STATE_OCTETS
returns-then-state-ne-STATE_OCTETS c = rw (ne_eqb _ _ c.if-state-ne-STATE_OCTETS.true)

pub returns : goal.returns
returns c =
    let a = c.args in
    rw (c.clear.ensures, cleared a.state.now {n = 1477} (omega arith), eq-eqb _ _ c.if-state-ne-STATE_OCTETS.false)
