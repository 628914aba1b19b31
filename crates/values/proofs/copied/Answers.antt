-- `values::copied` meets its contract. Assumes nothing.
use mathlib.Core.Path.{refl}
use Rattle.octets.specs.Parts.{zeros}
use Rattle.values.proofs.HeldLaws.{put-first, put-held}
use Rattle.values.proofs.copied.Goals as goal

pub invariant_of-result : goal.invariant_of-result
unfolding zeros
invariant_of-result c = put-held _ c.args.octets.now _ refl c.requires c.copy_in.ensures

pub returns : goal.returns
returns c = rw (put-first _ c.args.octets.now _ _ refl c.copy_in.ensures)
