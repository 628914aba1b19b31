-- `values::pair_column` meets its contract. Assumes nothing.
use mathlib.Core.Path.{◌≡◌, ◌∙◌}
use native.Mathlib.Omega.{arith}
use Rattle.names.specs.Index.{weight}
use Rattle.names.specs.Places.{pair_low_port, pair_high_port, pair_bridge_num, pair_bridge_state}
use Rattle.answer.specs.Values.{values}
use Rattle.values.proofs.pair_column.Goals as goal

pub overflow_cast-key : goal.overflow_cast-key
unfolding weight
overflow_cast-key c = omega arith

pub returns-in-14 : goal.returns-in-14
unfolding values
returns-in-14 c d r =
    let e : c.args.i ≡ pair_low_port = omega arith in
    c.number.ensures ∙ rw e

pub returns-in-15 : goal.returns-in-15
unfolding values
returns-in-15 c d r =
    let e : c.args.i ≡ pair_high_port = omega arith in
    c.number-in-15.ensures ∙ rw e

pub returns-in-16 : goal.returns-in-16
unfolding values
returns-in-16 c d r =
    let e : c.args.i ≡ pair_bridge_num = omega arith in
    c.number-in-16.ensures ∙ rw (e, r)

pub returns-in_default : goal.returns-in_default
unfolding values
returns-in_default c d r =
    let e : c.args.i ≡ pair_bridge_state = omega arith in
    c.number-in_default.ensures ∙ rw (e, r)
