-- `octets::parts::all_zero` meets its contract. The invariant: the joined bits are 0 where the octets passed are. Assumes nothing.
use mathlib.Core.Path.{◌≡◌}
use Prim.Native.Nat.{◌<◌}
use lib.Dec.{eqb}
use Rattle.octets.specs.Parts.{zero_run}
use Rattle.octets.proofs.parts.all_zero.Given as goal

abbrev pub invariant-loop-x : goal.invariant-loop-x
invariant-loop-x l = (l.bits < 256) × (eqb l.bits 0 ≡ zero_run l.s l.at l.x-index)
