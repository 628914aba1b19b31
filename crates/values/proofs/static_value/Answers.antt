-- `values::static_value` meets its contract. Assumes nothing.
use mathlib.Core.Path.{sym, ◌∙◌}
use native.Mathlib.Omega.{arith}
use Rattle.block.specs.Image.{content_of}
use Rattle.block.specs.Lookup.{no_static}
use Rattle.block.proofs.ValidParts.{valid-parts}
use Rattle.block.proofs.RoundLaws.{legal-valid, legal-sized}
use Rattle.values.proofs.KeyLaws.{row-place, row-found}
use Rattle.values.proofs.static_value.Goals as goal

pub ports-requires : goal.ports-requires
ports-requires c =
    (legal-sized c.args.block.now c.requires.0).long

pub static_entry-row-requires : goal.static_entry-row-requires
static_entry-row-requires c =
    let b = c.args.block.now in
    (legal-sized b c.requires.0, row-place c.args.key (content_of b).statics _ c.row_place.ensures)

pub static_column-requires : goal.static_column-requires
static_column-requires c =
    let b = c.args.block.now in
    let v = valid-parts (content_of b) (legal-valid b c.requires.0).0 in
    omega arith

pub returns : goal.returns
returns c =
    let content = content_of c.args.block.now in
    let row = row-found c.args.key content.statics _ c.row_place.ensures no_static in
    c.static_column.ensures content (sym c.ports.ensures) (row ∙ sym c.static_entry-row.ensures)
