-- `legality::static_rows_ok` meets its contract. The invariant: the answer is that of the rows left. Assumes nothing.
use mathlib.Core.Path.{◌≡◌}
use lib.ListN.{drop}
use Rattle.names.specs.declared.Shape.TheVariants.{Static}
use Rattle.block.specs.Image.{content_of}
use Rattle.block.specs.Valid.{every, static_ok}
use Rattle.block.specs.Tests.{row_ok}
use Rattle.legality.proofs.static_rows_ok.Given as goal

abbrev pub invariant-loop-i : goal.invariant-loop-i
invariant-loop-i l =
    every (row_ok l.m Static (static_ok l.m)) (content_of l.block).statics ≡ every (row_ok l.m Static (static_ok l.m)) (drop l.i (content_of l.block).statics)
