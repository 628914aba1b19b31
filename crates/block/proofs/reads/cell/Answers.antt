-- `block::reads::cell` meets its contract. Assumes nothing.
use mathlib.Core.Path.{sym, ◌∙◌}
use Rattle.block.proofs.ReadLaws.{cell-is}
use Rattle.block.proofs.reads.cell.Goals as goal

pub returns : goal.returns
returns c = c.be4.ensures ∙ sym (cell-is _ _ c.requires.1)
