-- `legality::pairs_ok` meets its contract. The invariant: the answer is that of the rows left, from low on. Assumes nothing.
use mathlib.Core.Path.{◌≡◌}
use lib.ListN.{drop}
use Rattle.names.specs.declared.Shape.TheVariants.{Pair}
use Rattle.block.specs.Image.{content_of}
use Rattle.block.specs.Valid.{rows_ok, pair_ok}
use Rattle.legality.proofs.pairs_ok.Given as goal

abbrev pub invariant-loop-i : goal.invariant-loop-i
invariant-loop-i l =
    rows_ok l.m Pair pair_ok 0 (content_of l.block).pairs ≡ rows_ok l.m Pair pair_ok l.low (drop l.i (content_of l.block).pairs)
