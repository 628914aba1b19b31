-- `set::set_block` meets its contract: the kept bindings mean the bindings of the request, so their verdict and their changes are the set's.
-- Assumes nothing.
use mathlib.Core.Path.{◌≡◌, sym, ap, ◌∙◌}
use mathlib.Core.Bool.{true}
use mathlib.Core.List.{List, map}
use Prim.Native.Nat.{ℕ}
use native.Mathlib.Omega.{arith}
use lib.Seq.{length-take-le}
use borrow.Author.Tests.{eqb-false}
use Rattle.std.specs.Prelude.{Result, Ok, Err}
use Rattle.std.proofs.lemmas.Result.{err_from_is_err_and}
use Rattle.octets.proofs.NumberLaws.{Octets}
use Rattle.block.specs.Content.{model_of}
use Rattle.block.specs.Image.{image, content_of}
use Rattle.block.specs.Valid.{valid, legal}
use Rattle.block.proofs.ValidParts.{valid-parts}
use Rattle.block.proofs.RoundLaws.{legal-valid}
use Rattle.message.specs.declared.request.Binding.{Binding}
use Rattle.answer.specs.Faults.{number_of}
use Rattle.answer.specs.declared.faults.Fault.{Fault}
use Rattle.answer.specs.Judge.{Judged}
use Rattle.answer.specs.Set.{Verdict, verdict}
use Rattle.verdict.specs.Kept.{bare, meant_by, judged_in, verdict_as, AllWithin, KeptFit}
use Rattle.verdict.specs.declared.judge.Kept.{Kept}
use Rattle.verdict.proofs.faults.FaultLaws.{fault-numbered, own-numbers, own-nonzero}
use Rattle.set.proofs.FitLaws.{timers-fit}
use Rattle.set.proofs.SetLaws.{kept-verdict, judged-kept-fit, accepted-leaves, faulted-leaves}
use Rattle.set.proofs.set_block.Goals as goal

pub model-requires : goal.model-requires
model-requires c = (legal-valid c.args.block.now c.requires.0).2

pub judge_each-requires : goal.judge_each-requires
judge_each-requires c =
    let b = c.args.block.now in
    let v = valid-parts (content_of b) (legal-valid b c.requires.0).0 in
    (rw c.model.ensures v.some_ports, rw c.model.ensures v.few_ports, c.requires.1, length-take-le _ _ c.requires.1.few)

-- what the kept bindings are: the block's content is valid, they mean the bindings, their verdict is theirs, and they fit
module _ (b s : List ℕ) (bs : List Binding) (kept : List (Result Kept Fault)) (lawful : legal b ≡ true) (told : meant_by s kept ≡ map bare (judged_in (model_of (content_of b)) s bs)) where
  abbrev asked : List Judged
  asked = judged_in (model_of (content_of b)) s bs

  before-valid : valid (content_of b) ≡ true
  before-valid = (legal-valid b lawful).0

  fits : Octets s → AllWithin s kept → KeptFit s kept
  fits o within = judged-kept-fit (content_of b) s bs kept told before-valid o within

  answered : {v : Verdict} → v ≡ verdict (content_of b) (meant_by s kept) → v ≡ verdict (content_of b) asked
  answered e = e ∙ kept-verdict (content_of b) s bs kept told

pub verdict_of-requires : goal.verdict_of-requires
verdict_of-requires c =
    let a = c.args in
    let k = c.judge_each in
    let told : meant_by a.request.now k.new.kept ≡ map bare (judged_in (model_of (content_of a.block.now)) a.request.now a.bindings.now) = rw (← c.model.ensures) k.ensures.0 in (
      c.requires.0,
      omega (arith, k.auto.kept ∙ length-take-le _ _ c.requires.1.few, c.requires.1.few),
      timers-fit a.request.now k.new.kept (fits a.block.now a.request.now a.bindings.now k.new.kept c.requires.0 told (λ i. omega (arith, c.type_inv.request i)) k.ensures.1),
    )

pub write_all-requires : goal.write_all-requires
write_all-requires c =
    let a = c.args in
    let k = c.judge_each in
    let told : meant_by a.request.now k.new.kept ≡ map bare (judged_in (model_of (content_of a.block.now)) a.request.now a.bindings.now) = rw (← c.model.ensures) k.ensures.0 in (
      c.requires.0,
      omega (arith, k.auto.kept ∙ length-take-le _ _ c.requires.1.few, c.requires.1.few),
      fits a.block.now a.request.now a.bindings.now k.new.kept c.requires.0 told (λ i. omega (arith, c.type_inv.request i)) k.ensures.1,
    )

pub returns-in_err-verdict_of : goal.returns-in_err-verdict_of
returns-in_err-verdict_of c =
    let a = c.args in
    let b = a.block.now in
    let k = c.judge_each in
    let e = c.in_err-verdict_of.field-0.0 in
    let p = err_from_is_err_and c.from_residual.result c.from_residual.ensures.1 in
    let told : meant_by a.request.now k.new.kept ≡ map bare (judged_in (model_of (content_of b)) a.request.now a.bindings.now) = rw (← c.model.ensures) k.ensures.0 in
    let v : verdict_as (Err e) ≡ verdict (content_of b) (asked b a.request.now a.bindings.now k.new.kept c.requires.0 told) =
    answered b a.request.now a.bindings.now k.new.kept c.requires.0 told (rw c.in_err-verdict_of.was at (c.verdict_of.ensures number_of a.request.now own-numbers (own-nonzero k.new.kept))) in
    let same = faulted-leaves (content_of b) (asked b a.request.now a.bindings.now k.new.kept c.requires.0 told)
    (λ z. eqb-false (number_of e.fault) 0 (fault-numbered e.fault) (ap (λ (x : Verdict). x.status) v ∙ z)) in
    rw (p.1, p.2) (v, sym (ap image same ∙ (legal-valid b c.requires.0).1))

pub returns : goal.returns
returns c =
    let a = c.args in
    let b = a.block.now in
    let k = c.judge_each in
    let told : meant_by a.request.now k.new.kept ≡ map bare (judged_in (model_of (content_of b)) a.request.now a.bindings.now) = rw (← c.model.ensures) k.ensures.0 in
    let v : verdict_as (Ok tt) ≡ verdict (content_of b) (meant_by a.request.now k.new.kept) = rw c.in_ok-verdict_of.was at (c.verdict_of.ensures number_of a.request.now own-numbers (own-nonzero k.new.kept)) in (
      answered b a.request.now a.bindings.now k.new.kept c.requires.0 told v,
      accepted-leaves (content_of b) a.request.now a.bindings.now k.new.kept told (legal-valid b c.requires.0).0 (λ i. omega (arith, c.type_inv.request i))
          c.write_all.new.block (sym (ap (λ (x : Verdict). x.status) v)) c.write_all.ensures,
    )
