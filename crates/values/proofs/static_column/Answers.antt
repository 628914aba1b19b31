-- `values::static_column` meets its contract. Assumes nothing.
use mathlib.Core.Path.{◌≡◌, ◌∙◌}
use native.Mathlib.Omega.{arith}
use Rattle.names.specs.Places.{static_address, static_receive_port, static_allowed, static_state}
use Rattle.answer.specs.Values.{values}
use Rattle.values.proofs.static_column.Goals as goal

pub returns-in-19 : goal.returns-in-19
unfolding values
returns-in-19 c d p r =
    let e : c.args.i ≡ static_address = omega arith in
    c.written.ensures ∙ rw e

pub returns-in-20 : goal.returns-in-20
unfolding values
returns-in-20 c d p r =
    let e : c.args.i ≡ static_receive_port = omega arith in
    c.number.ensures ∙ rw e

pub returns-in-21 : goal.returns-in-21
unfolding values
returns-in-21 c d p r =
    let e : c.args.i ≡ static_allowed = omega arith in
    c.port_set.ensures ∙ rw (e, p, r)

pub returns-in_default : goal.returns-in_default
unfolding values
returns-in_default c d p r =
    let e : c.args.i ≡ static_state = omega arith in
    c.number-in_default.ensures ∙ rw (e, r)
