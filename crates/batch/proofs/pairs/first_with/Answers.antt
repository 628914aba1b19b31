use mathlib.Core.Path.{◌≡◌, sym, ap, ◌∙◌}
use native.Mathlib.Omega.{arith}
use mathlib.Core.List.{map}
use Rattle.console.specs.Batch.{octets_at}
use Rattle.batch.specs.Names.{groups_of, common}
use Rattle.batch.specs.Found.{meant}
use Rattle.batch.proofs.GroupLaws.{named-is}
use Rattle.batch.proofs.TurnLaws.{few, all-behind, set_here, sets_behind}
use Rattle.batch.proofs.SearchLaws.{with-end, with-found, with-next}
use Rattle.batch.proofs.pairs.first_with.Goals as goal

pub returns-then-batch-at : goal.returns-then-batch-at
returns-then-batch-at c =
    let a = c.args in
    let l = c.loop-j in
    (sym (l.invariant.1 ∙ with-end (map meant a.of.now) a.model a.batch.now l.at l.j c.if-batch-at.true), tt)

pub groups_at-groups-requires : goal.groups_at-groups-requires
groups_at-groups-requires c =
    (c.requires.0, c.message_at-s.ensures.1, set_here c.loop-j.invariant.0 c.if-batch-at.false c.message_at-s.ensures)

pub returns-then-share : goal.returns-then-share
returns-then-share c =
    let a = c.args in
    let l = c.loop-j in
    let e : c.share.result ≡ common (map meant a.of.now) (groups_of a.model (octets_at a.batch.now c.message_at-s.result)) =
    c.share.ensures ∙ ap (common (map meant a.of.now)) (named-is c.groups_at-groups.result c.named.ensures c.groups_at-groups.ensures.0) in (
      sym (l.invariant.1 ∙ with-found a.model l.invariant.0 c.if-batch-at.false c.message_at-s.ensures (map meant a.of.now) e c.if-share.true),
      (l.auto.j, few l.invariant.0 c.if-batch-at.false),
    )

pub loop-j-preserved : goal.loop-j-preserved
loop-j-preserved c =
    let a = c.args in
    let l = c.loop-j in
    let e : c.share.result ≡ common (map meant a.of.now) (groups_of a.model (octets_at a.batch.now c.message_at-s.result)) =
    c.share.ensures ∙ ap (common (map meant a.of.now)) (named-is c.groups_at-groups.result c.named.ensures c.groups_at-groups.ensures.0) in (
      sets_behind l.invariant.0 c.if-batch-at.false c.message_at-s.ensures,
      l.invariant.1 ∙ with-next a.model l.invariant.0 c.if-batch-at.false c.message_at-s.ensures (map meant a.of.now) e c.if-share.false,
    )

pub returns : goal.returns
returns c =
    let a = c.args in
    let l = c.loop-j in
    (sym (l.invariant.1 ∙ with-end (map meant a.of.now) a.model a.batch.now l.at l.j (all-behind l.invariant.0 (omega arith))), tt)
