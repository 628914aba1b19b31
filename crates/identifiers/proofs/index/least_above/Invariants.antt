-- `identifiers::index::least_above` meets its contract. The invariant: w is the weight of the place, and the least is key with what is left of it. Assumes nothing.
use mathlib.Core.Path.{◌≡◌}
use Prim.Native.Nat.{◌+◌, ◌*◌, ◌≤◌, ◌<◌}
use lib.ListN.{length, drop}
use Rattle.names.specs.SubIds.{subids}
use Rattle.names.specs.Index.{bases, weight, limit, least}
use Rattle.identifiers.proofs.index.least_above.Given as goal

abbrev pub invariant-loop-i : goal.invariant-loop-i
invariant-loop-i l =
    (4 * l.i ≤ length l.rest)
    × (0 < l.w)
    × (l.w ≡ weight (drop l.i (bases l.shape)))
    × (l.key + l.w ≤ limit l.shape)
    × (least (bases l.shape) (subids l.rest) ≡ l.key + least (drop l.i (bases l.shape)) (drop l.i (subids l.rest)))
