-- `block::reads::ports` meets its contract. Assumes nothing.
use mathlib.Core.Path.{sym, ◌∙◌}
use Rattle.block.proofs.ReadLaws.{ports-is}
use Rattle.block.proofs.reads.ports.Goals as goal

pub returns : goal.returns
returns c = c.be4.ensures ∙ sym (ports-is _)
