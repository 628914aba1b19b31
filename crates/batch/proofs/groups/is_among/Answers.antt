use mathlib.Core.Path.{sym, ◌∙◌}
use native.Mathlib.Omega.{arith}
use Rattle.batch.specs.Found.{meant}
use Rattle.batch.proofs.GroupLaws.{among-found, among_next, among-end}
use Rattle.batch.proofs.groups.is_among.Goals as goal

pub returns-then-same_group : goal.returns-then-same_group
returns-then-same_group c =
    let d = c.loop-g in
    let a = c.args in
    sym (d.invariant ∙ among-found a.of.now d.g-index (meant a.t) (omega arith) c.same_group.ensures c.if-same_group.true)

pub loop-g-preserved : goal.loop-g-preserved
loop-g-preserved c =
    let d = c.loop-g in
    let a = c.args in
    d.invariant ∙ among_next a.of.now d.g-index (meant a.t) (omega arith) c.same_group.ensures c.if-same_group.false

pub returns : goal.returns
returns c =
    let d = c.loop-g in
    let a = c.args in
    sym (d.invariant ∙ among-end a.of.now d.g-index (meant a.t) (omega arith))
