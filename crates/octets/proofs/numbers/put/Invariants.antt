-- `octets::numbers::put` meets its contract. The invariant: what is left to store makes of s what all the stores make of s at entry. Assumes nothing.
use mathlib.Core.Path.{◌≡◌}
use Rattle.octets.proofs.NumberLaws.{put_at}
use Rattle.octets.proofs.numbers.put.Given as goal

abbrev pub invariant-loop-i : goal.invariant-loop-i
invariant-loop-i l = put_at l.s l.at l.i l.left ≡ put_at l.initial.s l.at l.w l.v
