-- `block::maps::rows_from` meets its contract. The invariant: the first i rows are there. Assumes nothing.
use mathlib.Core.Path.{◌≡◌}
use lib.ListN.{length, take}
use Rattle.block.specs.Cells.{map_from}
use Rattle.block.specs.Image.{content_of}
use Rattle.block.proofs.maps.rows_from.Given as goal

abbrev pub invariant-loop-i : goal.invariant-loop-i
invariant-loop-i l = (length l.rows ≡ 64) × (take l.i l.rows ≡ map_from (content_of l.block).cells l.k l.i)
