-- `values::pair_value` meets its contract. Assumes nothing.
use mathlib.Core.Path.{sym, ◌∙◌}
use Rattle.names.specs.declared.Shape.TheVariants.{Pair}
use Rattle.block.specs.Image.{content_of}
use Rattle.block.specs.Lookup.{no_pair}
use Rattle.block.proofs.RoundLaws.{legal-valid, legal-sized}
use Rattle.values.proofs.KeyLaws.{key-small, row-place, row-found}
use Rattle.values.proofs.pair_value.Goals as goal

pub pair_entry-row-requires : goal.pair_entry-row-requires
pair_entry-row-requires c =
    let b = c.args.block.now in
    (legal-sized b c.requires.0, row-place c.args.key (content_of b).pairs _ c.row_place.ensures)

pub pair_column-requires : goal.pair_column-requires
pair_column-requires c =
    let b = c.args.block.now in
    (c.requires.1, c.requires.2, key-small (content_of b) Pair c.args.key (legal-valid b c.requires.0).0 c.requires.3)

pub returns : goal.returns
returns c =
    let content = content_of c.args.block.now in
    let row = row-found c.args.key content.pairs _ c.row_place.ensures no_pair in
    c.pair_column.ensures content (row ∙ sym c.pair_entry-row.ensures)
