-- `legality::is_pair` meets its contract. Assumes nothing.
use mathlib.Core.Path.{sym}
use Rattle.legality.proofs.LegalLaws.{pair-can}
use Rattle.legality.proofs.is_pair.Goals as goal

pub returns : goal.returns
returns c = sym (pair-can c.args.m c.args.key)
