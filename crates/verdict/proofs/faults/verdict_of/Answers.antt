use Prim.Native.Nat.{ℕ, ◌<◌}
use mathlib.Core.Path.{◌≡◌, refl, sym, subst, ◌∙◌}
use mathlib.Core.List.{List}
use lib.ListN.{length, get_or, drop_of_length-le}
use Rattle.std.specs.Prelude.{Result, All}
use Rattle.std.proofs.lemmas.List.{get_or_read}
use Rattle.block.specs.Image.{content_of}
use Rattle.answer.specs.Set.{fault, first_fault, verdict}
use Rattle.verdict.specs.Kept.{meant_with, meant_by_with, NonZero}
use Rattle.verdict.specs.declared.judge.Kept.{Kept}
use Rattle.verdict.proofs.PastEnd.{past_end}
use Rattle.verdict.proofs.faults.FaultLaws.{first-turn, first-here}
use Rattle.verdict.proofs.faults.verdict_of.Goals as goal

-- what a turn of the loop reads of the list: its element at i, whose fault has a number other than 0
read-at : {E : Type 0} (n : E → ℕ) (qs : List (Result Kept E)) (i : ℕ) (q : Result Kept E) → i < length qs → q ≡ get_or qs i q → All (NonZero n) qs
    → (q ≡ get_or qs i past_end) × NonZero n q
read-at n qs i q h is all =
    let here = get_or_read qs i q h is past_end in
    (here, subst (NonZero n) (sym here) (all i past_end h))

pub loop-i-init : goal.loop-i-init
unfolding verdict
loop-i-init g c = λ n s k all. refl

pub returns-in-Err : goal.returns-in-Err
returns-in-Err g c =
    λ n s k all.
    let a = c.args in
    let read = read-at n a.kept.now c.loop-i.i c.index-kept-i.result c.loop-i-test.true c.index-kept-i.is all in
    let told = rw c.in-Err.is at (c.fault_of.ensures n s k read.1 (c.full_in-full.ensures n s)) in
    let f : n c.in-Err.fault ≡ fault (content_of a.block.now) (meant_by_with n s a.kept.now) (meant_with n s (get_or a.kept.now c.loop-i.i past_end)) = rw (← read.0) told.0 in
    sym (c.loop-i.invariant n s k all ∙ first-here n (content_of a.block.now) (meant_by_with n s a.kept.now) s a.kept.now c.loop-i.i c.loop-i-test.true (n c.in-Err.fault) f told.1)

pub loop-i-preserved : goal.loop-i-preserved
loop-i-preserved g c =
    λ n s k all.
    let a = c.args in
    let read = read-at n a.kept.now c.loop-i.i c.index-kept-i.result c.loop-i-test.true c.index-kept-i.is all in
    let f : fault (content_of a.block.now) (meant_by_with n s a.kept.now) (meant_with n s (get_or a.kept.now c.loop-i.i past_end)) ≡ 0 =
    rw (← read.0) (rw c.in_default.is at (c.fault_of.ensures n s k read.1 (c.full_in-full.ensures n s))) in
    c.loop-i.invariant n s k all ∙ first-turn n (content_of a.block.now) (meant_by_with n s a.kept.now) s a.kept.now c.loop-i.i c.loop-i-test.true ∙ rw f

pub returns : goal.returns
unfolding first_fault
returns g c = λ n s k all. sym (c.loop-i.invariant n s k all ∙ rw (drop_of_length-le c.args.kept.now {i = c.loop-i.i} c.loop-i-test.false))
