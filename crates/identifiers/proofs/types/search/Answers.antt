use mathlib.Core.Path.{sym, ap, ◌∙◌}
use Prim.Native.Nat.{◌+◌, ◌-◌, ◌/◌}
use native.Mathlib.Nat.{not-suc-le-zero}
use native.Mathlib.Omega.{arith}
use Rattle.octets.proofs.BoolLaws.{by-tri}
use Rattle.names.specs.SubIds.{subids}
use Rattle.names.specs.Index.{answered}
use Rattle.names.specs.Table.{prefix_of, object_at}
use Rattle.names.proofs.SideLaws.{is_under, is_above, side-prefix}
use Rattle.names.proofs.TableLaws.{short-at, above-none, below_none, none_found, only-found, passed-most, passed-above, passed-not, passed-at, side-at}
use Rattle.identifiers.proofs.types.search.Goals as goal

pub loop-first-init : goal.loop-first-init
loop-first-init c =
    record {
      reached = omega arith;
      left = passed-most _;
      few = omega arith;
      before = λ j h. absurd (not-suc-le-zero h);
      behind = λ j h l. absurd (omega arith);
    }

pub type_side-requires : goal.type_side-requires
type_side-requires c = rw c.object.ensures (short-at _)

pub loop-first-preserved-in-Below : goal.loop-first-preserved-in-Below
loop-first-preserved-in-Below c =
    let i = c.loop-first.invariant in
    let r = subids c.args.rest.now in
    let m = c.loop-first.first + (c.loop-first.last - c.loop-first.first) / 2 in
    let e = sym (side-at r m c.type_side.ensures c.object.ensures) ∙ c.in-Below.is in
    record {
      reached = i.reached;
      left = passed-not r m (omega (arith, i.few)) (ap is_above e);
      few = omega (arith, i.few);
      before = i.before;
      behind = λ j h l. below_none r m j h l e;
    }

pub returns-in-Prefix-clause-found : goal.returns-in-Prefix-clause-found
returns-in-Prefix-clause-found c =
    let r = subids c.args.rest.now in
    let m = c.loop-first.first + (c.loop-first.last - c.loop-first.first) / 2 in
    let e = sym (side-at r m c.type_side.ensures c.object.ensures) ∙ c.in-Prefix.is in
    sym (ap answered (only-found r m (omega (arith, c.loop-first.invariant.few)) (side-prefix r (prefix_of (object_at m)) ∙ ap is_under e)))

pub returns-in-Prefix-clause-first : goal.returns-in-Prefix-clause-first
returns-in-Prefix-clause-first c =
    let r = subids c.args.rest.now in
    let m = c.loop-first.first + (c.loop-first.last - c.loop-first.first) / 2 in
    let e = sym (side-at r m c.type_side.ensures c.object.ensures) ∙ c.in-Prefix.is in
    sym (passed-at r m (omega (arith, c.loop-first.invariant.few)) e)

pub loop-first-preserved : goal.loop-first-preserved
loop-first-preserved c =
    let i = c.loop-first.invariant in
    let r = subids c.args.rest.now in
    let m = c.loop-first.first + (c.loop-first.last - c.loop-first.first) / 2 in
    let e = sym (side-at r m c.type_side.ensures c.object.ensures) ∙ c.in-Above.is in
    record {
      reached = omega (arith, passed-above r m (omega (arith, i.few)) e);
      left = i.left;
      few = i.few;
      before = λ j h. above-none r m j (omega (arith, i.few)) (omega (arith, h)) e;
      behind = i.behind;
    }

pub returns-clause-found : goal.returns-clause-found
returns-clause-found c =
    let l = c.loop-first in
    let i = l.invariant in
    sym
    (ap answered
    (none_found (subids c.args.rest.now)
    (λ j h. by-tri j l.first (i.before j) (λ e. i.behind j (omega (arith, e)) h) (λ g. i.behind j (omega (arith, g)) h))))
