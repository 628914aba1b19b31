-- `identifiers::index::put_index` meets its contract. The invariant: w is the weight of the place, and what is left to put makes of s what all makes of s at entry.
-- Assumes nothing.
use mathlib.Core.Path.{◌≡◌}
use Prim.Native.Nat.{◌+◌, ◌*◌, ◌<◌}
use lib.ListN.{length, drop}
use Rattle.octets.specs.Parts.{patch}
use Rattle.names.specs.SubIds.{name_octets}
use Rattle.names.specs.Index.{bases, weight, digits, index}
use Rattle.identifiers.proofs.index.put_index.Given as goal

abbrev pub invariant-loop-i : goal.invariant-loop-i
invariant-loop-i l =
    (length l.s ≡ length l.initial.s)
    × (l.rest < l.w)
    × (l.w ≡ weight (drop l.i (bases l.shape)))
    × (patch l.s (l.at + 4 * l.i) (name_octets (digits (drop l.i (bases l.shape)) l.rest)) ≡ patch l.initial.s l.at (name_octets (index l.shape l.key)))
