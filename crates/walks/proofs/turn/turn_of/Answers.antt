-- `walks::turn::turn_of` meets its contract. Assumes nothing.
use mathlib.Core.Path.{◌∙◌}
use Rattle.walks.proofs.CodeLaws.{turn_below, turn-same, turn-above}
use Rattle.walks.proofs.turn.turn_of.Goals as goal

pub returns-in-Less : goal.returns-in-Less
returns-in-Less c =
    let a = c.args in
    turn_below a.s.now a.t.now a.i a.a a.j a.b c.relate.ensures c.in-Less.is

pub returns-in-Equal : goal.returns-in-Equal
returns-in-Equal c =
    let a = c.args in
    (λ q. record { found = c.differing.ensures q; next = a.a.next; other = a.b.next }) ∙ turn-same a.s.now a.t.now a.i a.a a.j a.b c.relate.ensures c.in-Equal.is c.contrasts-c.ensures

pub returns-in-Greater : goal.returns-in-Greater
returns-in-Greater c =
    let a = c.args in
    turn-above a.s.now a.t.now a.i a.a a.j a.b c.relate.ensures c.in-Greater.is
