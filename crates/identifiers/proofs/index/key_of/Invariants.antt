-- `identifiers::index::key_of` meets its contract. The invariant: the key so far, with the sub-ids left, is the key of all, and there is room for it.
-- Assumes nothing.
use mathlib.Core.Path.{◌≡◌}
use Prim.Native.Nat.{◌+◌, ◌*◌, ◌≤◌, ◌<◌}
use lib.ListN.{drop}
use Rattle.names.specs.SubIds.{subids}
use Rattle.names.specs.Index.{bases, ranges, weight, limit}
use Rattle.names.proofs.IndexTurns.{key_within, key_from}
use Rattle.identifiers.proofs.index.key_of.Given as goal

abbrev pub invariant-loop-i : goal.invariant-loop-i
invariant-loop-i l =
    (0 < weight (drop l.i (bases l.shape)))
    × (l.key * weight (drop l.i (bases l.shape)) + weight (drop l.i (bases l.shape)) ≤ limit l.shape)
    × (key_within l.m l.shape (subids l.rest) ≡ key_from l.key (drop l.i (ranges l.m l.shape)) (drop l.i (bases l.shape)) (drop l.i (subids l.rest)))
