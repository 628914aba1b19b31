-- `block::tables::first_key_from` meets its contract: the first key that is at least a number is at the place of that number. Assumes nothing.
use mathlib.Core.Path.{sym}
use native.Mathlib.Omega.{arith}
use lib.ListN.{length-map}
use Rattle.block.specs.Image.{content_of}
use Rattle.block.specs.Lookup.{keys_of}
use Rattle.block.specs.Tables.{rows_of}
use Rattle.block.proofs.FindLaws.{find_first, find_past}
use Rattle.block.proofs.tables.first_key_from.Goals as goal

pub returns-then-i-row_count : goal.returns-then-i-row_count
returns-then-i-row_count c =
    let f = c.before.before.before.before.before in
    let a = f.args in
    let ks = keys_of (rows_of a.t (content_of a.block.now)) in
    let i = c.place_in-i in
    rw (
      find_first a.low ks f.find_row.result (sym f.find_row.ensures)
          (rw (← i.ensures, length-map, ← c.row_count.ensures) c.if-i-row_count.true),
      ← i.ensures,
      c.row_key.ensures,
    )

pub returns : goal.returns
returns c =
    let f = c.before.before.before.before in
    let a = f.args in
    let ks = keys_of (rows_of a.t (content_of a.block.now)) in
    let i = c.place_in-i in
    rw (find_past a.low ks f.find_row.result (sym f.find_row.ensures)
    (rw (← i.ensures, length-map, ← c.row_count.ensures) (omega (arith, c.if-i-row_count.false))))
