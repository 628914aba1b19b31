-- `sending::writing::signed_five` meets its contract. Assumes nothing.
use mathlib.Core.Path.{◌∙◌}
use Rattle.sending.proofs.WriteLaws.{five-signed}
use Rattle.sending.proofs.writing.signed_five.Goals as goal

pub returns : goal.returns
returns c = c.copy_in.ensures ∙ five-signed c.args.xs.now c.requires
