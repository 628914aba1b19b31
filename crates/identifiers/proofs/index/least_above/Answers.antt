use mathlib.Core.Path.{◌∙◌}
use Prim.Native.Nat.{◌+◌, ◌*◌, ◌/◌, ◌≤◌}
use native.Mathlib.Omega.{arith}
use lib.ListN.{drop}
use Rattle.names.specs.SubIds.{subids}
use Rattle.names.specs.Index.{bases}
use Rattle.names.proofs.IndexTurns.{Next, weight-next, room, limit-size, least-stop, least-past, least_on, least-end}
use Rattle.identifiers.proofs.index.least_above.Goals as goal
use Rattle.identifiers.proofs.index.least_above.Lts as lts
use Rattle.identifiers.proofs.index.least_above.Reads as reads
use Rattle.identifiers.proofs.index.least_above.Tie as tie

pub loop-i-init : goal.loop-i-init
loop-i-init c =
    let z = limit-size c.args.shape in
    let e = c.limit_of-w.ensures in
    (omega arith, omega arith, e, omega arith, omega arith)

pub returns-then-rest-i-lt4 : goal.returns-then-rest-i-lt4
returns-then-rest-i-lt4 c =
    let a = c.args in
    let l = c.loop-i in
    omega (arith, l.invariant.4, least-stop (bases a.shape) a.rest.now l.i (omega arith) (omega arith))

-- what a turn makes of the weight
next : (c : lts.After-base_at tie.the-claims reads.Pre reads.Post goal.the-invariant-loop-i goal.the-decreases-loop-i)
    → Next
    (bases c.args.shape)
    c.loop-i.i
    c.base_at-base.result
    c.loop-i.w
next c =
    let l = c.loop-i in
    weight-next _ l.i _ _ (omega arith) c.base_at-base.ensures l.invariant.2 l.invariant.1

pub returns-then-base-x : goal.returns-then-base-x
returns-then-base-x c =
    let s = c.args.rest.now in
    let l = c.loop-i in
    let b = c.base_at-base.ensures in
    omega (arith, least-past _ s l.i (omega arith) _ _ _ b (omega arith) (c.from-x.ensures ∙ c.be4.ensures) (next c.before.before) c.if-base-x.true)

-- the sub-id is a digit
less : (c : goal.Else-base-x)
    → c.from-x.result * (c.loop-i.w / c.base_at-base.result)
    + c.loop-i.w / c.base_at-base.result
    ≤ c.loop-i.w
less c = room _ _ _ _ (next c.before.before) _ (omega arith)

pub loop-i-preserved : goal.loop-i-preserved
loop-i-preserved c =
    let s = c.args.rest.now in
    let l = c.loop-i in
    let b = c.base_at-base.ensures in
    let n = next c.before.before in
    let e = least_on _ s l.i (omega arith) _ _ _ b (omega arith) (c.from-x.ensures ∙ c.be4.ensures) n (omega arith) in
    (omega arith, n.some_left, n.next, omega (arith, less c), omega arith)

pub returns : goal.returns
returns c =
    let a = c.args in
    let l = c.loop-i in
    omega (arith, l.invariant.4, least-end (bases a.shape) (drop l.i (subids a.rest.now)) l.i (omega arith))
