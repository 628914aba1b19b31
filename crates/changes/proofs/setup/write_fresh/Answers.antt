-- `changes::setup::write_fresh` meets its contract: a cleared block with ports, address, edition and device, the cells, and VLAN 1. Assumes nothing.
use mathlib.Core.Path.{◌≡◌, refl, ap, ◌∙◌}
use native.Mathlib.Omega.{arith}
use lib.ListN.{length}
use Rattle.block.specs.Content.{with_cells}
use Rattle.block.specs.Image.{image}
use Rattle.block.specs.Fresh.{fresh_cells}
use Rattle.block.specs.declared.tables.Table.TheVariants.{Vlan as vlan}
use Rattle.block.proofs.ImageLaws.{length-image}
use Rattle.block.proofs.ChangeLaws.{image-rows}
use Rattle.block.proofs.FreshLaws.{started, start, started-shape, celled-shape, fresh-is}
use Rattle.changes.proofs.setup.write_fresh.Goals as goal

-- the block once its cells are written, and a table's rows in it
pub write_fresh_vlans-requires : goal.write_fresh_vlans-requires
write_fresh_vlans-requires c =
    let a = c.args in
    let s = celled-shape a.m a.address.now c.requires.1 in
    let written : c.write_fresh_cells.new.block ≡ image (with_cells (started a.m a.address.now) (fresh_cells a.m)) =
    c.write_fresh_cells.ensures (started a.m a.address.now) (started-shape a.m a.address.now)
    (cc (start a.block.now a.m a.address.now c.requires.0 c.requires.2)) in
    let e = image-rows vlan s written in
    (ap length written ∙ length-image _ s, omega arith, c.requires.1)

pub returns : goal.returns
returns c =
    let a = c.args in
    let s = celled-shape a.m a.address.now c.requires.1 in
    let written : c.write_fresh_cells.new.block ≡ image (with_cells (started a.m a.address.now) (fresh_cells a.m)) =
    c.write_fresh_cells.ensures (started a.m a.address.now) (started-shape a.m a.address.now)
    (cc (start a.block.now a.m a.address.now c.requires.0 c.requires.2)) in
    cc (c.write_fresh_vlans.ensures _ s refl written, fresh-is a.m a.address.now)
