-- `walks::turn::turn_at` meets its contract. Assumes nothing.
use mathlib.Core.Path.{ap, ◌∙◌}
use Rattle.std.specs.Prelude.{Some}
use Rattle.message.proofs.BindingLaws.{stands}
use Rattle.walks.specs.Turn.{turn_at}
use Rattle.walks.proofs.CodeLaws.{no-bound, a-bound}
use Rattle.walks.proofs.turn.turn_at.Goals as goal

pub returns-in_err-a : goal.returns-in_err-a
unfolding turn_at
returns-in_err-a c = c.from_residual.ensures ∙ rw (← c.binding_at.ensures) (no-bound _ _ c.in_err-a.ensures.value)

pub returns-in_err-b : goal.returns-in_err-b
unfolding turn_at
returns-in_err-b c =
    c.from_residual-in_err-b.ensures
    ∙ rw (← c.binding_at.ensures, a-bound _ c.in_ok-a.ensures.value, ← c.binding_at-2.ensures) (no-bound _ _ c.in_err-b.ensures.value)

pub turn_of-requires : goal.turn_of-requires
turn_of-requires c =
    let p = stands c.binding_at.ensures (a-bound _ c.in_ok-a.ensures.value) in
    let q = stands c.binding_at-2.ensures (a-bound _ c.in_ok-b.ensures.value) in
    (p.binding.named, p.binding.filled, q.binding.named, q.binding.filled)

pub returns : goal.returns
unfolding turn_at
returns c = rw (← c.binding_at.ensures, a-bound _ c.in_ok-a.ensures.value, ← c.binding_at-2.ensures, a-bound _ c.in_ok-b.ensures.value) (ap Some c.turn_of.ensures)
