-- `changes::setup::write_fresh_vlans` meets its contract. Assumes nothing.
use mathlib.Core.Path.{ap, ◌∙◌}
use Rattle.block.specs.Image.{image}
use Rattle.block.proofs.FreshLaws.{vlans-put, vlans-left}
use Rattle.changes.proofs.setup.write_fresh_vlans.Goals as goal

pub returns-then-m-eq-TRANSPARENT : goal.returns-then-m-eq-TRANSPARENT
returns-then-m-eq-TRANSPARENT c k s e h =
    let a = c.args in
    c.insert_row.ensures k s h ∙ ap image (rw c.fresh_vlan.ensures (vlans-put a.m k e c.if-m-eq-TRANSPARENT.true))

pub returns-else-m-eq-TRANSPARENT : goal.returns-else-m-eq-TRANSPARENT
returns-else-m-eq-TRANSPARENT c k s e h = h ∙ ap image (vlans-left c.args.m k e c.if-m-eq-TRANSPARENT.false)
