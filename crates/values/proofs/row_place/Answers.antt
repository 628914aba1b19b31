-- `values::row_place` meets its contract: a key that is there is found. Assumes nothing.
use mathlib.Core.Path.{sym, ◌∙◌}
use Rattle.block.specs.Image.{content_of}
use Rattle.block.specs.Lookup.{keys_of}
use Rattle.block.specs.Tables.{rows_of}
use Rattle.block.proofs.RoundLaws.{legal-sized}
use Rattle.instances.proofs.SearchLaws.{rows-ascend, rows-rising, found-is-there}
use Rattle.values.proofs.row_place.Goals as goal

pub find_row-requires : goal.find_row-requires
find_row-requires c = (legal-sized c.args.block.now c.requires.0, rows-ascend c.args.block.now c.requires.0 c.args.t)

pub unwrap-requires : goal.unwrap-requires
unwrap-requires c =
    let b = c.args.block.now in
    rw c.find_row.ensures (found-is-there c.args.key (keys_of (rows_of c.args.t (content_of b))) (rows-rising b c.requires.0 c.args.t) ∙ c.requires.1)

pub returns : goal.returns
returns c = sym c.find_row.ensures ∙ c.unwrap.ensures
