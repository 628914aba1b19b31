use mathlib.Core.Path.{◌≡◌, refl, sym, ap, ◌∙◌}
use Prim.Native.Nat.{ℕ, ◌<◌, ◌≤◌}
use native.Mathlib.Omega.{arith}
use mathlib.Core.Bool.{Bool, true, false}
use mathlib.Core.List.{List}
use lib.Dec.{ltb}
use lib.ListN.{length}
use borrow.Author.Tests.{ltb-true, ltb-false}
use denote.Bor.{Bor}
use Rattle.std.proofs.Common.{rules}
use Rattle.message.proofs.BindingLaws.{stands}
use Rattle.message.proofs.LoopLaws.{head-refused, passed-more, passed-refused, passed-full, passed-all}
use Rattle.message.proofs.reader.outcome_of.Goals as goal

-- whether octets stand at the reader's place
inside_lem : {s t : List ℕ} {at : ℕ} {b : Bool} → t ≡ s → b ≡ ltb at (length t) → b ≡ true → at < length s
inside_lem {at = at} e h k = rw (← e) (ltb-true at _ (sym h ∙ k))

past : {s t : List ℕ} {at : ℕ} {b : Bool} → t ≡ s → b ≡ ltb at (length t) → b ≡ false → length s ≤ at
past {at = at} e h k = rw (← e) (ltb-false at _ (sym h ∙ k))

pub returns-in_err-head : goal.returns-in_err-head
returns-in_err-head c =
    let e = head-refused c.args.s.now (rw c.new-reader.ensures.0 at c.in_err-head.ensures.read) in
    rw (← e) (search rules)

pub returns-then-count-eq-MOST_BINDINGS : goal.returns-then-count-eq-MOST_BINDINGS
returns-then-count-eq-MOST_BINDINGS c =
    let o = rw c.new-reader.ensures.0 at c.in_ok-head.ensures.read in
    let w = c.loop-reader.invariant in
    rw (c.seventeenth.ensures, w.0) (passed-full c.args.s.now o w.1 (omega (arith, c.if-count-eq-MOST_BINDINGS.true)) (inside_lem w.0 c.more.ensures c.loop-reader-test.true))

pub returns-in_err-binding : goal.returns-in_err-binding
returns-in_err-binding c =
    let o = rw c.new-reader.ensures.0 at c.in_ok-head.ensures.read in
    let w = c.loop-reader.invariant in
    let e = passed-refused c.args.s.now o w.1 (omega (arith, w.1.sofar.few, c.if-count-eq-MOST_BINDINGS.false)) (inside_lem w.0 c.more.ensures c.loop-reader-test.true) (rw w.0 at c.in_err-binding.ensures.place.0) in
    rw (← e) (search rules)

pub loop-reader-smaller : goal.loop-reader-smaller
loop-reader-smaller c =
    let w = c.loop-reader.invariant in
    omega (arith, inside_lem w.0 c.more.ensures c.loop-reader-test.true, stands refl (c.in_ok-binding.ensures.place))

pub loop-reader-preserved : goal.loop-reader-preserved
loop-reader-preserved c =
    let w = c.loop-reader.invariant in (
      ap (λ (b : Bor (List ℕ)). b.now) c.in_ok-binding.ensures.request ∙ w.0,
      passed-more w.1 (omega (arith, w.1.sofar.few, c.if-count-eq-MOST_BINDINGS.false)) (inside_lem w.0 c.more.ensures c.loop-reader-test.true) (rw w.0 at c.in_ok-binding.ensures.place),
    )

pub returns : goal.returns
returns c =
    let o = rw c.new-reader.ensures.0 at c.in_ok-head.ensures.read in
    let w = c.loop-reader.invariant in
    passed-all c.args.s.now o w.1 (past w.0 c.more.ensures c.loop-reader-test.false)
