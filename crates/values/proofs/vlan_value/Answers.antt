-- `values::vlan_value` meets its contract. Assumes nothing.
use mathlib.Core.Path.{sym, ◌∙◌}
use Rattle.block.specs.Image.{content_of}
use Rattle.block.specs.Lookup.{no_vlan}
use Rattle.block.proofs.ValidParts.{valid-parts}
use Rattle.block.proofs.RoundLaws.{legal-valid, legal-sized}
use Rattle.values.proofs.KeyLaws.{row-place, row-found, name-found}
use borrow.Author.Rules.{rules}
use Rattle.values.proofs.vlan_value.Goals as goal

pub ports-requires : goal.ports-requires
ports-requires c =
    (legal-sized c.args.block.now c.requires.0).long

pub vlan-row-requires : goal.vlan-row-requires
vlan-row-requires c =
    let b = c.args.block.now in
    (legal-sized b c.requires.0, row-place c.args.key (content_of b).vlans _ c.row_place.ensures)

pub vlan_column-requires : goal.vlan_column-requires
vlan_column-requires c =
    let b = c.args.block.now in
    let ok = (legal-valid b c.requires.0).0 in
    let v = valid-parts (content_of b) ok in
    let named = rw (← c.vlan-row.ensures) at (name-found (content_of b) c.args.key _ ok c.row_place.ensures) in
    search rules

pub returns : goal.returns
returns c =
    let content = content_of c.args.block.now in
    let row = row-found c.args.key content.vlans _ c.row_place.ensures no_vlan in
    c.vlan_column.ensures content c.args.key (sym c.ports.ensures) (row ∙ sym c.vlan-row.ensures)
