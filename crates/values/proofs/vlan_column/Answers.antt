-- `values::vlan_column` meets its contract. Assumes nothing.
use Rattle.values.proofs.HeldLaws.{name-parts}
use mathlib.Core.Path.{◌≡◌, ◌∙◌}
use native.Mathlib.Omega.{arith}
use Rattle.names.specs.Places.{vlan_name, vlan_egress, vlan_forbidden, vlan_untagged, vlan_row_status}
use Rattle.answer.specs.Values.{values}
use Rattle.values.proofs.vlan_column.Goals as goal

pub shared_ref_as_front-copied : goal.shared_ref_as_front-copied
shared_ref_as_front-copied c = let r = c.args.row.now in (name-parts r.len r.name c.requires.4).0

pub returns-in-32 : goal.returns-in-32
unfolding values
returns-in-32 c d k p r =
    let e : c.args.i ≡ vlan_name = omega arith in
    c.copied.ensures ∙ rw (e, r)

pub returns-in-33 : goal.returns-in-33
unfolding values
returns-in-33 c d k p r =
    let e : c.args.i ≡ vlan_egress = omega arith in
    c.port_set.ensures ∙ rw (e, p, r)

pub returns-in-34 : goal.returns-in-34
unfolding values
returns-in-34 c d k p r =
    let e : c.args.i ≡ vlan_forbidden = omega arith in
    c.port_set-in-34.ensures ∙ rw (e, p, r)

pub returns-in-35 : goal.returns-in-35
unfolding values
returns-in-35 c d k p r =
    let e : c.args.i ≡ vlan_untagged = omega arith in
    c.port_set-in-35.ensures ∙ rw (e, p, r)

pub returns-in_default : goal.returns-in_default
unfolding values
returns-in_default c d k p r =
    let e : c.args.i ≡ vlan_row_status = omega arith in
    c.number.ensures ∙ rw (e, r)
