use mathlib.Core.Path.{◌≡◌, refl, sym, ◌∙◌}
use native.Mathlib.Omega.{arith}
use Rattle.std.specs.Prelude.{Err}
use Rattle.std.proofs.Common.{rules}
use Rattle.message.proofs.BindingLaws.{stands}
use Rattle.walks.specs.Walk.{walk_of, walk_judged}
use Rattle.walks.proofs.WalkLaws.{sofar-none, sofar-all, sofar-refused, sofar-falls, sofar-more}
use Rattle.walks.proofs.walk.judge.Goals as goal

pub loop-at-init : goal.loop-at-init
loop-at-init c = (omega arith, sofar-none c.args.s.now)

pub returns-in_err-read : goal.returns-in_err-read
returns-in_err-read c =
    let e : Err _ ≡ walk_judged (walk_of c.args.s.now) = sofar-refused c.loop-at.invariant.1 c.loop-at-test.true c.in_err-read.ensures refl in
    rw (← e) (search rules)

pub ascends-requires : goal.ascends-requires
ascends-requires c = (c.loop-at.invariant.0, (stands c.in_ok-read.ensures refl).binding.named)

pub returns-then-not-ascends : goal.returns-then-not-ascends
returns-then-not-ascends c = sofar-falls c.loop-at.invariant.1 c.loop-at-test.true c.in_ok-read.ensures refl (sym c.ascends.ensures ∙ c.if-not-ascends.true)

pub loop-at-smaller : goal.loop-at-smaller
loop-at-smaller c = omega (arith, (stands c.in_ok-read.ensures refl).goes, c.loop-at-test.true)

pub loop-at-preserved : goal.loop-at-preserved
loop-at-preserved c = (
  (stands c.in_ok-read.ensures refl).binding.named,
  sofar-more c.loop-at.invariant.1 c.loop-at-test.true c.in_ok-read.ensures refl (sym c.ascends.ensures ∙ c.if-not-ascends.false),
)

pub returns : goal.returns
returns c = sofar-all c.loop-at.invariant.1 c.loop-at-test.false
