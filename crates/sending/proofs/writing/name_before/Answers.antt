use native.Mathlib.Omega.{arith}
use borrow.Author.Rules.{rules}
use Prim.Native.Nat.{◌-◌}
use mathlib.Core.Path.{◌∙◌}
use Rattle.names.specs.SubIds.{subids}
use Rattle.sending.specs.Writing.{name_ber}
use Rattle.sending.proofs.WriteLaws.{named_none, named_again, named-last, sub_at, subs-first, sub-count, written-first}
use Rattle.sending.proofs.writing.name_before.Goals as goal

pub loop-i-init : goal.loop-i-init
loop-i-init c = named_none (subids c.args.name.now) _ _ _ (sub-count c.args.name.now) (omega arith) (omega arith)

pub base128_before-q-requires : goal.base128_before-q-requires
base128_before-q-requires c = omega (arith, c.loop-i.invariant.room, c.loop-i.invariant.placed, c.loop-i.invariant.long, c.loop-i.invariant.two)

pub loop-i-preserved : goal.loop-i-preserved
loop-i-preserved c = named_again (subids c.args.name.now) c.args.out.now _ _ _ _ _ c.loop-i.invariant (omega arith) (omega arith) (c.from.ensures ∙ c.be4.ensures ∙ sub_at c.args.name.now (c.loop-i.i - 1) (omega arith)) c.base128_before-q.ensures (search rules)

pub overflow_mul-from : goal.overflow_mul-from
overflow_mul-from c = omega (arith, c.from-2.ensures, c.be4-2.ensures, written-first c.args.name.now 0 c.requires.3)

pub overflow_add-from : goal.overflow_add-from
overflow_add-from c = omega (arith, c.from-2.ensures, c.be4-2.ensures, written-first c.args.name.now 0 c.requires.3)

pub base128_before-requires : goal.base128_before-requires
base128_before-requires c = omega (arith, c.from-2.ensures, c.be4-2.ensures, written-first c.args.name.now 0 c.requires.3, c.loop-i.invariant.room, c.loop-i.invariant.placed, c.loop-i.invariant.long, c.loop-i.invariant.two)

pub returns : goal.returns
unfolding name_ber
returns c = named-last (subids c.args.name.now) c.args.out.now _ _ _ _ _ c.loop-i.invariant (omega arith) (omega arith) (subs-first c.args.name.now (omega arith) (c.from-2.ensures ∙ c.be4-2.ensures) (c.from-3.ensures ∙ c.be4-3.ensures)) c.base128_before.ensures
