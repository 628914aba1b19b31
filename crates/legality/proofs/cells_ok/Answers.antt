use mathlib.Core.Path.{◌≡◌, refl, sym, ◌∙◌}
use mathlib.Core.Bool.{and-true}
use Prim.Native.Nat.{◌+◌}
use native.Mathlib.Omega.{arith}
use lib.ListN.{drop}
use Rattle.names.specs.Table.{objects}
use Rattle.names.proofs.RuleLaws.{step-positive}
use Rattle.block.specs.Cells.{cells_of, cells_in}
use Rattle.block.specs.Image.{content_of}
use Rattle.block.proofs.ValidParts.{cells-many}
use Rattle.legality.proofs.LegalLaws.{cells_left, cells-turn, cells-end}
use Rattle.legality.proofs.cells_ok.Goals as goal
use Rattle.legality.proofs.cells_ok.Lts as lts
use Rattle.legality.proofs.cells_ok.Reads as reads
use Rattle.legality.proofs.cells_ok.Tie as tie

pub loop-i-init : goal.loop-i-init
loop-i-init c = (omega (arith, cells-many), refl)

-- the cells of the object and of those behind it are the cells left
room : (c : lts.After-object tie.the-claims reads.Pre reads.Post goal.the-invariant-loop-i goal.the-decreases-loop-i) → let l = c.loop-i in l.k + (cells_of c.object-o.result + cells_in (drop (l.i + 1) objects)) ≡ 1541
room c = let l = c.loop-i in rw (c.object-o.ensures, ← cells_left l.i c.loop-i-test.true) l.invariant.0

pub column_ok-ok-requires : goal.column_ok-ok-requires
column_ok-ok-requires c =
    (c.requires.0, c.requires.1, rw c.object-o.ensures (step-positive c.loop-i.i), omega (arith, room c.before))

pub overflow_add-k : goal.overflow_add-k
overflow_add-k c = omega (arith, room c.before.before.before)

pub loop-i-preserved : goal.loop-i-preserved
loop-i-preserved c =
    let a = c.args in
    let l = c.loop-i in (
      omega (arith, room c.before.before.before),
      l.invariant.1
          ∙ rw (
            cells-turn l.ok a.m (content_of a.block.now).cells l.i l.k c.loop-i-test.true,
            ← c.object-o.ensures,
            ← c.column_ok-ok.ensures,
            ← c.cells_of-k.ensures,
          ),
    )

pub returns : goal.returns
returns c =
    let l = c.loop-i in
    sym (l.invariant.1 ∙ rw (cells-end c.args.m _ l.i c.loop-i-test.false, and-true))
