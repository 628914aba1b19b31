use mathlib.Core.Path.{◌≡◌, ap, ◌∙◌}
use native.Mathlib.Omega.{arith}
use Rattle.names.specs.Table.{object_at}
use Rattle.block.specs.Cells.{live_in}
use Rattle.block.specs.Image.{image}
use Rattle.block.proofs.FreshLaws.{column_to, column-none, column-room, column-shape, column-more, column-all}
use Rattle.changes.proofs.setup.write_column.Goals as goal

pub loop-j-init : goal.loop-j-init
loop-j-init c = (
  rw (← c.object-o.ensures) c.cells_of-total.ensures,
  c.first_cell-first.ensures.0,
  c.requires.0,
  λ m few e k s h. h ∙ ap image (column-none m k c.args.i),
)

pub overflow_add-first : goal.overflow_add-first
overflow_add-first c = let l = c.loop-j in omega (arith, column-room c.args.i c.requires.2)

pub put_cell-requires : goal.put_cell-requires
put_cell-requires c = omega (arith, column-room c.args.i c.requires.2)

pub loop-j-preserved : goal.loop-j-preserved
loop-j-preserved c =
    let l = c.loop-j in
    let i = c.args.i in
    let w = c.put_cell in
    let v = c.fresh_cell.ensures in (
      l.invariant.0,
      l.invariant.1,
      w.auto.block ∙ l.invariant.2,
      λ m few e k s h. w.ensures (column_to m k i l.j) (column-shape m few s i c.requires.2 l.j (omega arith)) (l.invariant.3 m few e k s h)
          ∙ ap image (rw (v, e, l.invariant.1) (column-more m few s i c.requires.2 l.j (omega arith))),
    )

pub returns : goal.returns
returns c k s e =
    let l = c.loop-j in
    let live : c.live_in-live.result ≡ live_in c.args.m (object_at c.args.i) = rw (← c.object-o.ensures) c.live_in-live.ensures in
    l.invariant.3 c.args.m c.requires.1 live k s e ∙ ap image (column-all c.args.m c.requires.1 s c.args.i c.requires.2 l.j (omega arith))
