-- `instances::has_row` meets its contract: a key is there where it is found. Assumes nothing.
use mathlib.Core.Path.{◌∙◌, ap}
use Rattle.block.specs.Image.{content_of}
use Rattle.block.specs.Lookup.{keys_of}
use Rattle.block.specs.Tables.{rows_of}
use Rattle.block.proofs.RoundLaws.{legal-sized}
use Rattle.std.specs.Prelude.{is_ok}
use Rattle.instances.proofs.SearchLaws.{rows-rising, rows-ascend, found-is-there}
use Rattle.instances.proofs.has_row.Goals as goal

pub find_row-requires : goal.find_row-requires
find_row-requires c =
    (legal-sized _ c.requires, rows-ascend _ c.requires c.args.t)

pub returns : goal.returns
returns c =
    let b = c.args.block.now in
    c.is_ok.ensures.value ∙ ap is_ok c.find_row.ensures ∙ found-is-there c.args.key (keys_of (rows_of c.args.t (content_of b))) (rows-rising b c.requires c.args.t)
