-- `legality::statics_ascend` meets its contract. The invariant: the answer is that of the rows left, from the least key behind the last word on. Assumes nothing.
use mathlib.Core.Path.{◌≡◌}
use Prim.Native.Nat.{◌^◌, ◌<◌}
use lib.ListN.{drop}
use Rattle.block.specs.Image.{content_of}
use Rattle.block.specs.Tests.{ascends}
use Rattle.legality.proofs.AscendLaws.{key_behind, Word}
use Rattle.legality.proofs.statics_ascend.Given as goal

abbrev pub invariant-loop-i : goal.invariant-loop-i
invariant-loop-i l =
    (l.before < 2 ^ 64) × Word l.before × (ascends 0 (content_of l.block).statics ≡ ascends (key_behind l.before) (drop l.i (content_of l.block).statics))
