use mathlib.Core.Path.{ap, ◌∙◌}
use native.Mathlib.Omega.{arith}
use Rattle.block.specs.Image.{image}
use Rattle.block.proofs.FreshLaws.{columns_to, columns-none, columns-shape, columns-next, columns-all}
use Rattle.changes.proofs.setup.write_fresh_cells.Goals as goal

pub loop-i-init : goal.loop-i-init
loop-i-init c = (c.requires.0, λ k s e. e ∙ ap image (columns-none c.args.m k))

pub loop-i-preserved : goal.loop-i-preserved
loop-i-preserved c =
    let l = c.loop-i in
    let m = c.args.m in
    let w = c.write_column in (
      w.auto.block ∙ l.invariant.0,
      λ k s e. w.ensures (columns_to m k l.i) (columns-shape m c.requires.1 s l.i) (l.invariant.1 k s e)
          ∙ ap image (columns-next m c.requires.1 s l.i (omega arith)),
    )

pub returns : goal.returns
returns c k s e =
    let l = c.loop-i in
    l.invariant.1 k s e ∙ ap image (columns-all c.args.m c.requires.1 s l.i (omega arith))
