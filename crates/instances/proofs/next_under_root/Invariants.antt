-- `instances::next_under_root` meets its contract. The invariant: the next place is that in the rows left, as none before the first place has a key above the name. Assumes nothing.
use mathlib.Core.Path.{◌≡◌}
use mathlib.Core.List.{◌++◌}
use lib.ListN.{drop}
use Rattle.names.specs.SubIds.{subids}
use Rattle.names.specs.Table.{root, objects}
use Rattle.names.specs.Instances.{next_place, next_from}
use Rattle.block.specs.Image.{content_of}
use Rattle.answer.specs.Values.{keys_on}
use Rattle.instances.proofs.next_under_root.Given as goal

abbrev pub invariant-loop-i : goal.invariant-loop-i
invariant-loop-i l =
    (next_place (keys_on (content_of l.block)) (root ++ subids l.rest) ≡ next_from (keys_on (content_of l.block)) (root ++ subids l.rest) l.i (drop l.i objects))
