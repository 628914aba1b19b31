use mathlib.Core.Path.{sym, ◌∙◌}
use native.Mathlib.Omega.{arith}
use Rattle.names.proofs.SideLaws.{turn_end, turn_below, turn-above, turn_on, turn-done}
use Rattle.identifiers.proofs.order.stands.Goals as goal

pub returns-then-name-i-lt4 : goal.returns-then-name-i-lt4
returns-then-name-i-lt4 c =
    let a = c.args in
    sym (c.loop-i.invariant.1 ∙ turn_end a.name.now a.prefix.now c.loop-i.i (omega arith) (omega arith))

pub returns-then-x-p : goal.returns-then-x-p
returns-then-x-p c =
    let a = c.args in
    sym (c.loop-i.invariant.1 ∙ turn_below a.name.now a.prefix.now c.loop-i.i (omega arith) (omega arith) (omega arith))

pub returns-then-p-x : goal.returns-then-p-x
returns-then-p-x c =
    let a = c.args in
    sym (c.loop-i.invariant.1 ∙ turn-above a.name.now a.prefix.now c.loop-i.i (omega arith) (omega arith) (omega arith))

pub loop-i-preserved : goal.loop-i-preserved
loop-i-preserved c =
    let a = c.args in
    (omega arith, c.loop-i.invariant.1 ∙ turn_on a.name.now a.prefix.now c.loop-i.i (omega arith) (omega arith) (omega arith))

pub returns : goal.returns
returns c =
    let a = c.args in
    sym (c.loop-i.invariant.1 ∙ turn-done _ a.prefix.now c.loop-i.i (omega arith))
