use native.Mathlib.Omega.{arith}
use borrow.Author.Rules.{rules}
use mathlib.Core.Path.{◌∙◌}
use Rattle.sending.proofs.SendLaws.{bers-size, bers-put, bers-done}
use Rattle.sending.proofs.put_bindings.Goals as goal

pub put_bound-to-requires : goal.put_bound-to-requires
put_bound-to-requires c =
    let w = c.requires in
    let o = c.loop-b in
    (w.0.each o.b-index (omega arith), omega (arith, w.1, o.invariant.0, o.invariant.1, bers-size c.args.s.now c.args.bindings.now o.b-index (omega arith)))

pub loop-b-preserved : goal.loop-b-preserved
loop-b-preserved c =
    let s = c.args.s.now in
    let bs = c.args.bindings.now in
    let w = c.requires in
    let o = c.loop-b in
    let e = c.put_bound-to.ensures in (
      search rules,
      omega (arith, o.invariant.1, e.0, bers-size s bs o.b-index (omega arith)),
      rw e.1 (bers-put s bs o.b-index (omega arith) o.room o.to e.0 (omega (arith, w.1, o.invariant.0, o.invariant.1)) ∙ o.invariant.2),
    )

pub returns : goal.returns
returns c =
    let o = c.loop-b in
    bers-done c.args.s.now c.args.bindings.now o.b-index o.room o.to (omega arith) ∙ o.invariant.2
