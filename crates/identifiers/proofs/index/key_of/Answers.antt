use mathlib.Core.Path.{◌≡◌, sym, ap, ◌∙◌}
use mathlib.Core.Bool.{Bool, cond}
use mathlib.Core.Option.{none, some}
use Prim.Native.Nat.{ℕ}
use native.Mathlib.Omega.{arith}
use lib.ListN.{get_or}
use Rattle.names.specs.SubIds.{subids}
use Rattle.names.specs.Index.{bases, ranges, limit, key_in, answered}
use Rattle.names.proofs.SubIdLaws.{subids-count}
use Rattle.names.proofs.IndexLaws.{range-lt}
use Rattle.names.proofs.IndexTurns.{Room, limit-size, ranges-length, within_none, within-some, key-none, key-start, key-room, range-contains, between, key-outside, key-on, key-end}
use Rattle.identifiers.proofs.index.key_of.Goals as goal
use Rattle.identifiers.proofs.index.key_of.Lts as lts
use Rattle.identifiers.proofs.index.key_of.Reads as reads
use Rattle.identifiers.proofs.index.key_of.Tie as tie

pub returns-then-rest-n : goal.returns-then-rest-n
returns-then-rest-n c =
    sym (ap answered (key-none _ c.args.shape _ (λ e. c.if-rest-n.true (sym (subids-count _) ∙ e ∙ sym c.index_len-n.ensures))))

pub loop-i-init : goal.loop-i-init
loop-i-init c =
    let a = c.args in
    ((limit-size a.shape).0, omega arith, key-start a.m a.shape (subids a.rest.now))

pub returns-then-not-contains : goal.returns-then-not-contains
returns-then-not-contains c =
    let a = c.args in
    let l = c.loop-i in
    let n = ranges-length a.m a.shape in
    let r = c.range_at.ensures in
    let w = range-contains c.range_at.result _ _ c.be4-x.result r.low r.high r.whole c.contains.ensures.value in
    sym
    (ap answered
    (within_none a.m a.shape (subids a.rest.now)
    (l.invariant.2 ∙ key-outside _ _ _ l.i l.key _ (omega arith) (omega arith) c.be4-x.ensures (sym w ∙ c.if-not-contains.true))))

-- a turn's digit finds room
room : (c : goal.After-base_at)
    → Room
    (bases c.args.shape)
    c.loop-i.i
    c.base_at.result
    c.loop-i.key
    c.be4-x.result
    (limit c.args.shape)
room c =
    let a = c.args in
    let l = c.loop-i in
    let r = c.range_at.ensures in
    let b = c.base_at.ensures in
    let q : ℕ × ℕ = get_or (ranges a.m a.shape) l.i (0, 0) in
    let w = between q.0 q.1 c.be4-x.result (range-contains c.range_at.result q.0 q.1 c.be4-x.result r.low r.high r.whole c.contains.ensures.value) c.if-not-contains.false in
    key-room _ l.i _ l.key _ _ (omega arith) b (omega (arith, w, range-lt a.m a.shape l.i (omega arith) (omega arith))) l.invariant.0 l.invariant.1

pub overflow_mul-key : goal.overflow_mul-key
overflow_mul-key c = omega (arith, (room c).fits, (limit-size c.args.shape).1)

pub overflow_add-key : goal.overflow_add-key
overflow_add-key c = omega (arith, (room c).fits, (limit-size c.args.shape).1)

pub loop-i-preserved : goal.loop-i-preserved
loop-i-preserved c =
    let a = c.args in
    let l = c.loop-i in
    let r = c.range_at.ensures in
    let n = ranges-length a.m a.shape in
    let q : ℕ × ℕ = get_or (ranges a.m a.shape) l.i (0, 0) in
    let w = between q.0 q.1 c.be4-x.result (range-contains c.range_at.result q.0 q.1 c.be4-x.result r.low r.high r.whole c.contains.ensures.value) c.if-not-contains.false in
    let x = c.be4-x.ensures in (
      (room c).some_left,
      (room c).left,
      l.invariant.2 ∙ key-on _ _ _ l.i l.key _ (omega arith) (omega arith) x _ (omega arith) c.base_at.ensures w.0 w.1,
    )

-- the order of the index of the key that was found decides
by_order : (c : lts.After-in_order tie.the-claims reads.Pre reads.Post goal.the-invariant-loop-i goal.the-decreases-loop-i tie.handed_clauses)
    → key_in
    c.args.m
    c.args.shape
    (subids c.args.rest.now)
    ≡ cond c.in_order.result (some c.loop-i.key) none
by_order c =
    let a = c.args in
    let l = c.loop-i in
    let n = ranges-length a.m a.shape in
    let s = subids-count a.rest.now in
    within-some a.m a.shape (subids a.rest.now) l.key (omega arith)
    (l.invariant.2 ∙ key-end _ _ _ l.i l.key (omega arith) (omega arith) (omega arith))
    ∙ ap (λ (b : Bool). cond b (some l.key) none) (sym c.in_order.ensures)

pub returns-then-in_order : goal.returns-then-in_order
returns-then-in_order c =
    sym (ap answered (by_order c.before.before ∙ ap (λ (b : Bool). cond b (some c.loop-i.key) none) c.if-in_order.true))

pub returns-else-in_order : goal.returns-else-in_order
returns-else-in_order c =
    sym (ap answered (by_order c.before.before ∙ ap (λ (b : Bool). cond b (some c.loop-i.key) none) c.if-in_order.false))
