use native.Mathlib.Omega.{arith}
use Rattle.std.proofs.Common.{rules}
use mathlib.Core.Path.{◌≡◌, ap, ◌∙◌}
use Rattle.std.specs.Prelude.{Err}
use Rattle.datagram.proofs.LoopLaws.{sofar-none, sofar-more, sofar-all, sofar-refused, sofar-full}
use Rattle.datagram.proofs.reading.read_bindings.Goals as goal

pub loop-at-init : goal.loop-at-init
loop-at-init c = sofar-none _ _ _ _

pub returns-then-count-eq-MOST_BINDINGS : goal.returns-then-count-eq-MOST_BINDINGS
returns-then-count-eq-MOST_BINDINGS c = ap Err c.seventeenth_at.ensures ∙ sofar-full _ _ _ _ c.loop-at.invariant (omega arith) c.loop-at-test.true

pub returns-in_err-read : goal.returns-in_err-read
returns-in_err-read c =
    let k : c.from_residual.result ≡ Err c.in_err-read.field-0.0 = search rules in
    k ∙ sofar-refused _ _ _ _ c.loop-at.invariant (omega arith) c.loop-at-test.true c.in_err-read.ensures

pub loop-at-preserved : goal.loop-at-preserved
loop-at-preserved c = sofar-more _ _ _ _ c.loop-at.invariant (omega arith) c.loop-at-test.true c.in_ok-read.ensures

pub returns : goal.returns
returns c = sofar-all _ _ _ _ c.loop-at.invariant c.loop-at-test.false
