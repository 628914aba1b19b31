-- `identifiers::types::search` meets its contract. The invariant: the first object type not below the rest of the name is between first and last,
-- and no object type outside that range is a prefix of the rest. Assumes nothing.
use mathlib.Core.Path.{◌≡◌}
use mathlib.Core.Bool.{false}
use Prim.Native.Nat.{ℕ, ◌-◌, ◌≤◌, ◌<◌}
use Rattle.names.specs.Order.{is_prefix}
use Rattle.names.specs.SubIds.{subids}
use Rattle.names.specs.Table.{object_count, objects, prefix_of, object_at, passed_in}
use Rattle.identifiers.proofs.types.search.Given as goal

abbrev pub invariant-loop-first : goal.invariant-loop-first
invariant-loop-first l =
    record {
      reached : l.first ≤ passed_in objects (subids l.rest);
      left : passed_in objects (subids l.rest) ≤ l.last;
      few : l.last ≤ object_count;
      before : (j : ℕ) → j < l.first → is_prefix (prefix_of (object_at j)) (subids l.rest) ≡ false;
      behind : (j : ℕ) → l.last ≤ j → j < object_count → is_prefix (prefix_of (object_at j)) (subids l.rest) ≡ false;
    }

abbrev pub decreases-loop-first : goal.decreases-loop-first
decreases-loop-first l = l.last - l.first
