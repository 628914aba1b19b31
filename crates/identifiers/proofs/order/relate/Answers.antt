-- `identifiers::order::relate` meets its contract. Assumes nothing.
use mathlib.Core.Path.{◌≡◌, sym, ◌∙◌}
use Prim.Native.Nat.{◌/◌, min}
use native.Mathlib.Omega.{arith}
use lib.ListN.{length}
use Rattle.names.proofs.RelationLaws.{turn_decides, turn_on, turn-last}
use Rattle.identifiers.proofs.order.relate.Goals as goal

pub returns-then-is_ne : goal.returns-then-is_ne
returns-then-is_ne c =
    let a = c.args in
    sym (c.loop-i.invariant ∙ turn_decides a.a.now a.b.now c.loop-i.i (omega (arith, c.min-i-end.ensures)) (omega (arith, c.min-i-end.ensures)) c.be4.ensures c.be4-in-loop-i.ensures c.cmp-order.ensures (sym c.is_ne.ensures ∙ c.if-is_ne.true))

pub loop-i-preserved : goal.loop-i-preserved
loop-i-preserved c =
    let a = c.args in
    c.loop-i.invariant ∙ turn_on a.a.now a.b.now c.loop-i.i (omega (arith, c.min-i-end.ensures)) (omega (arith, c.min-i-end.ensures)) c.be4.ensures c.be4-in-loop-i.ensures c.cmp-order.ensures (sym c.is_ne.ensures ∙ c.if-is_ne.false)

pub returns : goal.returns
returns c =
    let a = c.args in
    let e : c.loop-i.i ≡ min (length a.a.now / 4) (length a.b.now / 4) = omega (arith, c.min-i-end.ensures) in
    c.cmp.ensures ∙ sym (c.loop-i.invariant ∙ turn-last a.a.now a.b.now c.loop-i.i e)
