-- `values::written` meets its contract. Assumes nothing.
use Rattle.octets.specs.Numbers.{be_octets}
use Rattle.octets.proofs.NumberLaws.{length-be_octets}
use Rattle.octets.specs.Parts.{zeros}
use Rattle.values.proofs.HeldLaws.{put-first, put-held}
use Rattle.values.proofs.written.Goals as goal

pub invariant_of-result : goal.invariant_of-result
unfolding zeros
invariant_of-result c = let a = c.args in put-held a.size (be_octets a.size a.v) _ (length-be_octets a.size a.v) c.requires c.put.ensures

pub returns : goal.returns
returns c = let a = c.args in rw (put-first a.size (be_octets a.size a.v) _ _ (length-be_octets a.size a.v) c.put.ensures)
