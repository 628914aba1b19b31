-- `block::reads::active_vlans` meets its contract: a legal block keeps the number. Assumes nothing.
use mathlib.Core.Path.{◌∙◌}
use native.Mathlib.Omega.{arith}
use Rattle.block.proofs.RoundLaws.{legal-valid, legal-total}
use Rattle.block.proofs.reads.active_vlans.Goals as goal

pub be2-requires : goal.be2-requires
be2-requires c = omega (arith, (legal-valid c.args.block.now c.requires).2)

pub returns : goal.returns
returns c = c.be2.ensures ∙ legal-total c.args.block.now c.requires
