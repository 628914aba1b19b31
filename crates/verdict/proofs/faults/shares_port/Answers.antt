-- `verdict::faults::shares_port` meets its contract. Assumes nothing.
use mathlib.Core.Path.{sym, ◌∙◌}
use Rattle.std.specs.Prelude.{Some}
use Rattle.verdict.proofs.faults.PortSetLaws.{shares-sets, shares-none}
use Rattle.verdict.proofs.faults.shares_port.Goals as goal

pub returns-in-None : goal.returns-in-None
returns-in-None g c =
    λ n m s. sym (shares-none m _ _ _ (sym c.in-None.is ∙ c.after_statuses-made.ensures n m s _ c.sets_before-before.ensures))

pub returns-in-Some : goal.returns-in-Some
returns-in-Some g c =
    λ n m s.
    let made = sym c.in-Some.is ∙ c.after_statuses-made.ensures n m s _ c.sets_before-before.ensures in
    rw c.are_disjoint.ensures (sym (shares-sets m _ _ _ (Some c.after_attributes-sets.result) (c.after_attributes-sets.ensures n m s _ made)))
