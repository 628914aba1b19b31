-- `block::tables::find` meets its contract. The invariant: the answer is that of the rows from low on to before high, with those compared with so far.
-- Assumes nothing.
use Prim.Native.Nat.{◌+◌, ◌≤◌, ◌-◌}
use Rattle.block.proofs.HalvingLaws.{keys_at, Left}
use Rattle.block.proofs.tables.find.Given as goal

abbrev pub invariant-loop-low : goal.invariant-loop-low
invariant-loop-low l =
    (l.low ≤ l.high) × (l.high ≤ l.n) × (l.compared + (l.high - l.low) ≤ l.n) × Left l.key (keys_at l.at.key l.at.width l.block l.at.rows l.n) l.low l.high l.compared

abbrev pub decreases-loop-low : goal.decreases-loop-low
decreases-loop-low l = l.high - l.low
