use Rattle.std.proofs.Common.{◌∙◌, sym, arith}
use Rattle.tally.proofs.ScanLaws.{scan-turn, scan-done}
use Rattle.tally.proofs.scan.Goals as goal

pub loop-i-init : goal.loop-i-init
loop-i-init c = rw c.begin-s.ensures

pub loop-i-preserved : goal.loop-i-preserved
loop-i-preserved c = let l = c.loop-i in rw c.step-s.ensures (sym (scan-turn c.args.sought l.s l.i c.args.cases.now (omega arith)) ∙ l.invariant)

pub returns : goal.returns
returns c = let l = c.loop-i in sym (scan-done c.args.sought l.s l.i c.args.cases.now (omega arith)) ∙ l.invariant
