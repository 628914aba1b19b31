-- `block::maps::priority_map` meets its contract. Assumes nothing.
use mathlib.Core.Path.{◌∙◌}
use Rattle.block.proofs.maps.priority_map.Goals as goal

pub rows_from-requires : goal.rows_from-requires
rows_from-requires c = (c.requires.0, rw c.first_cell.ensures.0 c.requires.2)

pub returns : goal.returns
returns c = c.rows_from.ensures ∙ rw c.first_cell.ensures.0
