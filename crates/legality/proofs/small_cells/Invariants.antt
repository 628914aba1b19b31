-- `legality::small_cells` meets its contract. The invariant: the answer is that of the cells left. Assumes nothing.
use mathlib.Core.Path.{◌≡◌}
use Prim.Native.Nat.{◌*◌}
use lib.ListN.{take, drop}
use Rattle.block.specs.Image.{content_of}
use Rattle.block.specs.Valid.{every}
use Rattle.block.specs.Tests.{is_small}
use Rattle.legality.proofs.small_cells.Given as goal

abbrev pub invariant-loop-i : goal.invariant-loop-i
invariant-loop-i l =
    let xs = take l.m (drop l.k (content_of l.block).cells) in
    every is_small xs ≡ every is_small (drop (2 * l.i) xs)
