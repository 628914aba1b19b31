use mathlib.Core.Path.{sym}
use lib.ListN.{take, drop}
use Rattle.block.specs.Image.{content_of}
use Rattle.legality.proofs.SmallLaws.{every-unstepped}
use Rattle.legality.proofs.cells_stepped.Goals as goal

pub returns-then-step-eq1 : goal.returns-then-step-eq1
returns-then-step-eq1 c =
    let a = c.args in
    sym (every-unstepped a.step c.if-step-eq1.true (take a.m (drop a.k (content_of a.block.now).cells)))
