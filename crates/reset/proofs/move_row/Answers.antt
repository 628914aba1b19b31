-- `reset::move_row` meets its contract: a row that goes is passed over, any other is written. Assumes nothing.
use mathlib.Core.Path.{◌≡◌, sym, ap, ◌∙◌}
use mathlib.Core.Bool.{true, false}
use native.Mathlib.Omega.{arith}
use borrow.Author.Tests.{eq-eqb, ne_eqb}
use Rattle.block.specs.Image.{content_of}
use Rattle.block.specs.Lookup.{no_static}
use Rattle.block.proofs.StandingLaws.{key-at}
use Rattle.reset.specs.Reset.{delete_on_reset, goes}
use Rattle.reset.specs.Closing.{row_at}
use Rattle.reset.proofs.ResetLaws.{held-sized}
use Rattle.reset.proofs.move_row.Goals as goal

pub entry-row-requires : goal.entry-row-requires
entry-row-requires c = let p = c.requires in (held-sized p.0, p.1)

pub returns-then-row-eq-DELETE_ON_RESET : goal.returns-then-row-eq-DELETE_ON_RESET
returns-then-row-eq-DELETE_ON_RESET c =
    let e = c.entry-row in
    let g : goes (row_at (content_of c.args.block.now) c.args.i).1 ≡ true = ap goes (sym e.ensures) ∙ eq-eqb e.result.status delete_on_reset c.if-row-eq-DELETE_ON_RESET.true in
    (rw g, rw g (sym c.requires.0.same))

pub row_key-key-requires : goal.row_key-key-requires
row_key-key-requires c = let p = c.requires in (held-sized p.0, p.1)

pub change_row-requires : goal.change_row-requires
change_row-requires c =
    let p = c.requires in
    ((held-sized p.0).long, omega (arith, p.0.shape.few_statics))

pub returns : goal.returns
returns c =
    let k = c.row_key-key in
    let e = c.entry-row in
    let g : goes (row_at (content_of c.args.block.now) c.args.i).1 ≡ false =
    ap goes (sym e.ensures) ∙ ne_eqb e.result.status delete_on_reset c.if-row-eq-DELETE_ON_RESET.false in
    let key : k.result ≡ (row_at (content_of c.args.block.now) c.args.i).0 = k.ensures ∙ key-at (content_of c.args.block.now).statics c.args.i no_static.1 in
    let row : (k.result, e.result) ≡ row_at (content_of c.args.block.now) c.args.i = λ z. (key z, e.ensures z) in (
      rw g,
      rw (g, ← row) (c.change_row.ensures (content_of c.args.block.now) c.requires.0.shape (omega (arith, c.requires.1)) (sym c.requires.0.same)),
    )
