use mathlib.Core.Path.{refl, sym, ◌∙◌}
use Rattle.std.proofs.lemmas.List.{get_or_read}
use Rattle.verdict.proofs.PastEnd.{past_end}
use Rattle.verdict.proofs.faults.StatusLaws.{done-turn, done-none}
use Rattle.verdict.proofs.faults.is_done.Goals as goal
use Rattle.verdict.proofs.faults.is_done.Goals.{in-Ok+else-key-q, in_default}

pub loop-k-init : goal.loop-k-init
loop-k-init g c = refl

pub returns-then-key-q : goal.returns-then-key-q
returns-then-key-q g c =
    let a = c.args in
    let here = get_or_read a.kept.now c.loop-k.k-index c.k-item.result c.loop-k-test.true c.k-item.is past_end in
    sym (c.loop-k.invariant ∙ done-turn a.act a.t a.key a.kept.now c.loop-k.k-index c.loop-k-test.true ∙ rw (← here, c.in-Ok.is, ← c.does_to.ensures, c.if-key-q.true))

pub loop-k-preserved : goal.loop-k-preserved
loop-k-preserved g c =
    let a = c.args in
    let here = get_or_read a.kept.now c.loop-k.k-index c.k-item.result c.loop-k-test.true c.k-item.is past_end in
    c.loop-k.invariant
    ∙ done-turn a.act a.t a.key a.kept.now c.loop-k.k-index c.loop-k-test.true
    ∙ elim c.match-k.branch [
      | in-Ok+else-key-q w ↦ rw (← here, w.in-Ok.is, ← w.does_to.ensures, w.if-key-q.false)
      | in_default w ↦ rw (← here, w.in_default.is)
    ]

pub returns : goal.returns
returns g c =
    let a = c.args in
    sym (c.loop-k.invariant ∙ done-none a.act a.t a.key a.kept.now c.loop-k.k-index c.loop-k-test.false)
