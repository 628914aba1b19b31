-- `changes::setup::write_column` meets its contract. The invariant says it of the object's first j cells, for every content and every model with as many live cells. Assumes nothing.
use mathlib.Core.Path.{◌≡◌}
use Prim.Native.Nat.{◌≤◌}
use lib.ListN.{length}
use Rattle.names.specs.Table.{object_at}
use Rattle.names.specs.declared.model.Model.{Model}
use Rattle.block.specs.Cells.{cells_of, live_in, first_cell}
use Rattle.block.specs.Content.{Content, WellFormed}
use Rattle.block.specs.Image.{image}
use Rattle.block.proofs.FreshLaws.{column_to}
use Rattle.changes.proofs.setup.write_column.Given as goal

abbrev pub invariant-loop-j : goal.invariant-loop-j
invariant-loop-j l =
    (l.total ≡ cells_of (object_at l.i)) × (l.first ≡ first_cell l.i) × (length l.block ≡ 32768)
    × ((m : Model) → m.ports ≤ 64 → l.live ≡ live_in m (object_at l.i) → (c : Content) → WellFormed c → l.initial.block ≡ image c → l.block ≡ image (column_to m c l.i l.j))
