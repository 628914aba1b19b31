-- `verdict::faults::cell_fault` meets its contract. Assumes nothing.
use Rattle.verdict.proofs.faults.cell_fault.Goals as goal

pub returns-then-not-is_timer : goal.returns-then-not-is_timer
returns-then-not-is_timer g c = λ n s. rw (← c.is_timer.ensures, c.if-not-is_timer.true)

pub returns-then-timers_agree : goal.returns-then-timers_agree
returns-then-timers_agree g c =
    λ n s.
    let d = c in
    rw (← d.is_timer.ensures, d.if-not-is_timer.false, ← c.timers_agree.ensures n s, c.if-timers_agree.true)

pub returns : goal.returns
returns g c =
    λ n s.
    let d = c in
    rw (← d.is_timer.ensures, d.if-not-is_timer.false, ← c.timers_agree.ensures n s, c.if-timers_agree.false)
