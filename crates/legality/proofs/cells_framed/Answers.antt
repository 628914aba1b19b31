use mathlib.Core.Path.{sym}
use lib.ListN.{take, drop}
use borrow.Author.Tests.{not-true}
use Rattle.block.specs.Image.{content_of}
use Rattle.legality.proofs.SmallLaws.{every-unframed}
use Rattle.legality.proofs.cells_framed.Goals as goal

pub returns-then-not-o : goal.returns-then-not-o
returns-then-not-o c =
    let a = c.args in
    sym (every-unframed a.o (not-true a.o.frames c.if-not-o.true) (take a.m (drop a.k (content_of a.block.now).cells)))
