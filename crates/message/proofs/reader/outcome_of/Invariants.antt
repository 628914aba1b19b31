-- `message::reader::outcome_of` meets its contract. The loop's invariant: the reader is one of the octets, and count bindings stand between the head and its place.
-- The measure is the octets behind the reader's place. Assumes nothing.
use mathlib.Core.Path.{◌≡◌}
use Prim.Native.Nat.{◌-◌}
use lib.ListN.{length}
use Rattle.message.proofs.LoopLaws.{Passed}
use Rattle.message.proofs.reader.outcome_of.Given as goal

abbrev pub invariant-loop-reader : goal.invariant-loop-reader
invariant-loop-reader l = (l.reader.request.now ≡ l.s) × Passed l.head.kind l.s l.count l.reader.at

abbrev pub decreases-loop-reader : goal.decreases-loop-reader
decreases-loop-reader l = length l.s - l.reader.at
