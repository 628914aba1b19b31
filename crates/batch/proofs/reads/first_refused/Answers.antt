use mathlib.Core.Path.{◌≡◌, refl, sym, ap, ◌∙◌}
use native.Mathlib.Omega.{arith}
use Prim.Native.Nat.{◌+◌, ◌-◌}
use lib.ListN.{drop}
use Rattle.std.specs.Prelude.{Ok, Err}
use Rattle.batch.specs.Check.{refused_with}
use Rattle.batch.specs.declared.RbBatch.{RbBatch}
use Rattle.batch.proofs.TurnLaws.{refuses}
use Rattle.batch.proofs.ReadingLaws.{has_number, read-end, read-full, read-wrong, found_within, read_taken, read-unread, set-lent}
use Rattle.std.proofs.lemmas.List.{length-take}
use Rattle.batch.proofs.reads.first_refused.Goals as goal

pub returns-then-batch-at : goal.returns-then-batch-at
returns-then-batch-at c =
    let l = c.loop-i in
    l.invariant.1 ∙ read-end c.args.batch.now l.at l.i c.if-batch-at.true

pub returns-in-Err : goal.returns-in-Err
returns-in-Err c =
    let l = c.loop-i in
    let e = c.refused.ensures ∙ ap refused_with c.from.ensures in
    (l.invariant.1 ∙ read-wrong c.args.batch.now l.at l.i c.if-batch-at.false (omega arith) c.in-Err.ensures refl ∙ sym e, λ z. refuses c.in-Err.r (sym (ap (λ (r : RbBatch). r.number) e) ∙ z))

pub unreadable-requires : goal.unreadable-requires
unreadable-requires c =
    let b = c.args.batch.now in
    let l = c.loop-i in
    let s = c.in-Ok.s in
    let e : s.start + s.len - s.start ≡ s.len = omega arith in
    let w = set-lent b s (Err _) e c.in-Err-set_in.ensures in
    (omega arith, omega (arith, w.1, length-take s.len (drop s.start b), (found_within b l.at l.i c.if-batch-at.false (omega arith) c.in-Ok.ensures refl).1))

pub returns-in-Err-set_in : goal.returns-in-Err-set_in
returns-in-Err-set_in c =
    let b = c.args.batch.now in
    let l = c.loop-i in
    let s = c.in-Ok.s in
    let e : s.start + s.len - s.start ≡ s.len = omega arith in
    let w = set-lent b s (Err _) e c.in-Err-set_in.ensures in
    (l.invariant.1 ∙ read-unread b l.at l.i c.if-batch-at.false (omega arith) c.in-Ok.ensures refl w ∙ sym c.unreadable.ensures, λ z. has_number c.in-Err-set_in.r.reason (sym (ap (λ (r : RbBatch). r.number) c.unreadable.ensures) ∙ z))

pub loop-i-preserved : goal.loop-i-preserved
loop-i-preserved c =
    let b = c.args.batch.now in
    let l = c.loop-i in
    let s = c.in-Ok.s in
    let e : s.start + s.len - s.start ≡ s.len = omega arith in
    let w = set-lent b s (Ok tt) e c.in_default.ensures in
    let f = c.in-Ok.ensures in (
      (found_within b l.at l.i c.if-batch-at.false (omega arith) f refl).0,
      l.invariant.1 ∙ read_taken b l.at l.i c.if-batch-at.false (omega arith) f refl w,
    )

pub returns-then-batch-at-2 : goal.returns-then-batch-at-2
returns-then-batch-at-2 c =
    let l = c.loop-i in
    l.invariant.1 ∙ read-end c.args.batch.now l.at l.i c.if-batch-at-2.true

pub returns : goal.returns
returns c =
    let l = c.loop-i in
    let e = c.refused-2.ensures ∙ ap refused_with c.from-2.ensures in
    (l.invariant.1 ∙ read-full c.args.batch.now l.at l.i c.if-batch-at-2.false (omega arith) ∙ sym e, λ z. omega (arith, z, ap (λ (r : RbBatch). r.number) e))
