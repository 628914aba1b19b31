-- `legality::cells_ok` meets its contract. The invariant: the answer is what was found and the answer for the objects left, whose cells are the cells left. Assumes nothing.
use mathlib.Core.Path.{◌≡◌}
use mathlib.Core.Bool.{◌&&◌}
use Prim.Native.Nat.{◌+◌}
use lib.ListN.{drop}
use Rattle.names.specs.Table.{objects}
use Rattle.block.specs.Cells.{cells_in}
use Rattle.block.specs.Image.{content_of}
use Rattle.block.specs.Valid.{cells_ok}
use Rattle.legality.proofs.cells_ok.Given as goal

abbrev pub invariant-loop-i : goal.invariant-loop-i
invariant-loop-i l =
    (l.k + cells_in (drop l.i objects) ≡ 1541)
    × (cells_ok l.m objects (content_of l.block).cells ≡ (l.ok && cells_ok l.m (drop l.i objects) (drop l.k (content_of l.block).cells)))
