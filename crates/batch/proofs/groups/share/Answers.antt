use mathlib.Core.Path.{sym, ◌∙◌}
use native.Mathlib.Omega.{arith}
use mathlib.Core.List.{map}
use Rattle.batch.specs.Found.{meant}
use Rattle.batch.proofs.GroupLaws.{common-found, common-next, common-end}
use Rattle.batch.proofs.groups.share.Goals as goal

pub returns-then-is_among : goal.returns-then-is_among
returns-then-is_among c =
    let d = c.loop-g in
    let a = c.args in
    sym (d.invariant ∙ common-found a.a.now d.g-index (map meant a.b.now) (omega arith) c.is_among.ensures c.if-is_among.true)

pub loop-g-preserved : goal.loop-g-preserved
loop-g-preserved c =
    let d = c.loop-g in
    let a = c.args in
    d.invariant ∙ common-next a.a.now d.g-index (map meant a.b.now) (omega arith) c.is_among.ensures c.if-is_among.false

pub returns : goal.returns
returns c =
    let d = c.loop-g in
    let a = c.args in
    sym (d.invariant ∙ common-end a.a.now d.g-index (map meant a.b.now) (omega arith))
