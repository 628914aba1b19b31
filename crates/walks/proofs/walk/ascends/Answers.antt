-- `walks::walk::ascends` meets its contract. Assumes nothing.
use mathlib.Core.Path.{◌∙◌}
use Rattle.walks.proofs.CodeLaws.{ascends-is}
use Rattle.walks.proofs.walk.ascends.Goals as goal

pub returns : goal.returns
returns c =
    let a = c.args in
    c.is_lt.ensures ∙ ascends-is a.s.now a.a a.n a.b a.m c.relate.ensures
