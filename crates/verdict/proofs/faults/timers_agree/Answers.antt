-- `verdict::faults::timers_agree` meets its contract. Assumes nothing.
use mathlib.Core.Path.{◌∙◌}
use Rattle.block.specs.Valid.{together, timers_ok}
use Rattle.verdict.proofs.faults.timers_agree.Goals as goal

pub returns : goal.returns
unfolding timers_ok
returns g c =
    λ n s. c.belong_together.ensures
    ∙ (λ i. together (c.resulting_timer-age.ensures n s i) (c.resulting_timer-hello.ensures n s i) (c.resulting_timer-delay.ensures n s i))
