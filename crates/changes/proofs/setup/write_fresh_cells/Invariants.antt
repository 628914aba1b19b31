-- `changes::setup::write_fresh_cells` meets its contract. The invariant says it of the cells of the first i objects, for every content. Assumes nothing.
use mathlib.Core.Path.{◌≡◌}
use lib.ListN.{length}
use Rattle.block.specs.Content.{Content, WellFormed}
use Rattle.block.specs.Image.{image}
use Rattle.block.proofs.FreshLaws.{columns_to}
use Rattle.changes.proofs.setup.write_fresh_cells.Given as goal

abbrev pub invariant-loop-i : goal.invariant-loop-i
invariant-loop-i l = (length l.block ≡ 32768) × ((c : Content) → WellFormed c → l.initial.block ≡ image c → l.block ≡ image (columns_to l.m c l.i))
