-- `changes::remove_row` meets its contract: the row is no longer counted, and taken out. Assumes nothing.
use mathlib.Core.Path.{◌≡◌}
use native.Mathlib.Omega.{arith}
use lib.ListN.{length}
use Rattle.block.specs.Image.{content_of}
use Rattle.block.specs.Tables.{rows_of}
use Rattle.block.proofs.ChangeLaws.{image-rows, image-out, uncounted-row}
use Rattle.changes.proofs.remove_row.Goals as goal

pub close_row-requires : goal.close_row-requires
close_row-requires c =
    rw (c.standing_of-at.ensures, c.uncount.ensures)
    (uncounted-row c.args.t c.args.block.now c.args.i c.requires.0 c.requires.1 c.requires.2)

pub returns : goal.returns
returns c k s e =
    let a = c.args in
    let at = c.standing_of-at in
    let n : length (rows_of a.t (content_of a.block.now)) ≡ length (rows_of a.t k) = image-rows a.t s e in
    cc (image-out a.t s a.i (omega arith) e, at.ensures)
