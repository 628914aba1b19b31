-- `block::reads::deletes` meets its contract. Assumes nothing.
use mathlib.Core.Path.{sym, ◌∙◌}
use Rattle.block.proofs.ReadLaws.{deletes-is}
use Rattle.block.proofs.reads.deletes.Goals as goal

pub returns : goal.returns
returns c = c.be4.ensures ∙ sym (deletes-is _)
