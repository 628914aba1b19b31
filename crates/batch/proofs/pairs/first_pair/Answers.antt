use mathlib.Core.Path.{refl, sym, ap, ◌∙◌}
use native.Mathlib.Omega.{arith}
use Prim.Native.Nat.{◌+◌}
use Rattle.batch.specs.Check.{first_with}
use Rattle.batch.specs.Found.{named_from}
use Rattle.batch.proofs.GroupLaws.{named-is}
use Rattle.batch.proofs.PairLaws.{Named}
use Rattle.batch.proofs.TurnLaws.{few, all-behind, set_here, sets_behind}
use Rattle.batch.proofs.SearchLaws.{pair_end, pair_found, pair-next}
use Rattle.batch.proofs.pairs.first_pair.Goals as goal

pub returns-then-batch-at : goal.returns-then-batch-at
returns-then-batch-at c =
    let a = c.args in
    let l = c.loop-first in
    (sym (l.invariant.1 ∙ pair_end a.model a.batch.now l.at l.first c.if-batch-at.true), tt)

pub groups_at-groups-requires : goal.groups_at-groups-requires
groups_at-groups-requires c =
    (c.requires.0, c.message_at-s.ensures.1, set_here c.loop-first.invariant.0 c.if-batch-at.false c.message_at-s.ensures)

pub first_with-requires : goal.first_with-requires
first_with-requires c = (c.requires.0, sets_behind c.loop-first.invariant.0 c.if-batch-at.false c.message_at-s.ensures)

pub returns-in-Some : goal.returns-in-Some
returns-in-Some c =
    let a = c.args in
    let l = c.loop-first in
    let s = c.message_at-s.result in
    let e = c.in-Some.ensures.0
    ∙ ap (λ (gs : Named). first_with gs (l.first + 1) (named_from a.model a.batch.now (s.start + s.len) (l.first + 1))) (named-is c.groups_at-groups.result c.named.ensures c.groups_at-groups.ensures.0) in (
      sym (l.invariant.1 ∙ pair_found a.model l.invariant.0 c.if-batch-at.false c.message_at-s.ensures e (λ z. omega (arith, z, c.in-Some.ensures.1))),
      (l.auto.first, few l.invariant.0 c.if-batch-at.false, c.in-Some.ensures.1.1),
    )

pub loop-first-preserved : goal.loop-first-preserved
loop-first-preserved c =
    let a = c.args in
    let l = c.loop-first in
    let s = c.message_at-s.result in
    let e = c.in_default.ensures.0
    ∙ ap (λ (gs : Named). first_with gs (l.first + 1) (named_from a.model a.batch.now (s.start + s.len) (l.first + 1))) (named-is c.groups_at-groups.result c.named.ensures c.groups_at-groups.ensures.0) in (
      sets_behind l.invariant.0 c.if-batch-at.false c.message_at-s.ensures,
      l.invariant.1 ∙ pair-next a.model l.invariant.0 c.if-batch-at.false c.message_at-s.ensures e refl,
    )

pub returns : goal.returns
returns c =
    let a = c.args in
    let l = c.loop-first in
    (sym (l.invariant.1 ∙ pair_end a.model a.batch.now l.at l.first (all-behind l.invariant.0 (omega arith))), tt)
