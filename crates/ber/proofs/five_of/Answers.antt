-- `ber::five_of` meets its contract. Assumes nothing.
use mathlib.Core.Path.{◌∙◌}
use Rattle.ber.proofs.BerLaws.{five-put}
use Rattle.ber.proofs.five_of.Goals as goal

pub returns : goal.returns
returns c = c.copy_in.ensures ∙ five-put c.args.contents.now _ c.sign_of-out.ensures c.requires
