-- `set::lost` meets its contract: the rows counted so far and those of the kept bindings that are left are all of them. Assumes nothing.
use mathlib.Core.Path.{◌≡◌}
use mathlib.Core.List.{List, map}
use Prim.Native.Nat.{ℕ, ◌+◌, ◌≤◌}
use lib.ListN.{drop}
use Rattle.block.specs.Content.{model_of}
use Rattle.block.specs.Image.{content_of}
use Rattle.verdict.specs.Kept.{meant, meant_by}
use Rattle.set.proofs.PhaseLaws.{lost_by}
use Rattle.set.proofs.lost.Given as goal

abbrev pub invariant-loop-k : goal.invariant-loop-k
invariant-loop-k l =
    (l.rows ≤ l.k-index)
    × ((s : List ℕ) → lost_by (model_of (content_of l.block)) (content_of l.block).vlans (meant_by s l.kept)
    ≡ l.rows + lost_by (model_of (content_of l.block)) (content_of l.block).vlans (map (meant s) (drop l.k-index l.kept)))
