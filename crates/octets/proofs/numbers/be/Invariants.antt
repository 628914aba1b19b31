-- `octets::numbers::be` meets its contract. The invariant: acc is the number of the octets passed, and has their width. Assumes nothing.
use mathlib.Core.Path.{◌≡◌}
use Prim.Native.Nat.{◌^◌, ◌<◌}
use Rattle.octets.specs.Numbers.{be_at}
use Rattle.octets.proofs.numbers.be.Given as goal

abbrev pub invariant-loop-x : goal.invariant-loop-x
invariant-loop-x l = (l.acc ≡ be_at l.s l.at l.x-index) × (l.acc < 256 ^ l.x-index)
