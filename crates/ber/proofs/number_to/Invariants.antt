-- `ber::number_to` meets its contract. The invariant: acc is the number of the octets passed, and is at most `most`. Assumes nothing.
use Prim.Native.Nat.{◌≤◌}
use mathlib.Core.Path.{◌≡◌}
use Rattle.octets.specs.Numbers.{be_at}
use Rattle.ber.proofs.number_to.Given as goal

abbrev pub invariant-loop-x : goal.invariant-loop-x
invariant-loop-x l = (l.acc ≤ l.most) × (l.acc ≡ be_at l.octets 0 l.x-index)
