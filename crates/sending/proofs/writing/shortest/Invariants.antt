-- `sending::writing::shortest` meets its contract. Assumes nothing.
use mathlib.Core.Path.{◌≡◌}
use lib.ListN.{length}
use Rattle.sending.specs.Writing.{shortened}
use Rattle.sending.proofs.writing.shortest.Given as goal

abbrev pub invariant-loop-tail : goal.invariant-loop-tail
invariant-loop-tail l = shortened l.rest ≡ shortened l.xs

abbrev pub decreases-loop-tail : goal.decreases-loop-tail
decreases-loop-tail l = length l.rest
