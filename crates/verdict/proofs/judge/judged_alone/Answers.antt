-- `verdict::judge::judged_alone` meets its contract: by what the name leads to. Assumes nothing.
use Prim.Native.Nat.{ℕ, ◌≤◌}
use mathlib.Core.Path.{◌≡◌, sym, ap, ◌∙◌}
use mathlib.Core.List.{List}
use native.Mathlib.Omega.{arith}
use Rattle.std.proofs.lemmas.Result.{err_from_is_err_and}
use Rattle.octets.specs.Parts.{part}
use Rattle.names.specs.SubIds.{subids}
use Rattle.names.specs.Targets.{Target, target_in}
use Rattle.names.specs.declared.model.Model.{Model}
use Rattle.names.proofs.TargetLaws.{Tells, target-tells}
use Rattle.message.specs.declared.request.Binding.{Binding}
use Rattle.answer.specs.Judge.{under, alone}
use Rattle.answer.specs.Respond.{asked_at}
use Rattle.verdict.specs.Kept.{bare}
use Rattle.verdict.proofs.judge.AskedLaws.{brief}
use Rattle.verdict.proofs.judge.KeptLaws.{rowless-wrong, rowless-right, row-wrong, row-right, alone-led}
use Rattle.verdict.proofs.judge.judged_alone.Goals as goal

-- what the name leads to, and what that says of it
module _ (m : Model) (s : List ℕ) (b : Binding) {x : List ℕ} (name : x ≡ part s b.name b.size) {r t : Target} (found : r ≡ target_in m (subids x)) (told : r ≡ t) where
  led : t ≡ target_in m (subids (part s b.name b.size))
  led = sym told ∙ found ∙ ap (λ (y : List ℕ). target_in m (subids y)) name

  tells : m.ports ≤ 64 → Tells m (subids (part s b.name b.size)) t
  tells few = target-tells m (subids (part s b.name b.size)) few led

  alone-so : bare (under m (asked_at s b) t) ≡ bare (alone m (asked_at s b))
  alone-so = ap bare (alone-led m s b led)

pub name_of-requires : goal.name_of-requires
name_of-requires c = c.requires.2.named

pub said_by-requires : goal.said_by-requires
said_by-requires c =
    let a = c.args in
    let told = rw c.in-Err-NoIndex.field-0-is at c.in-Err-NoIndex.is in
    (c.requires.0, c.requires.1, (tells a.m a.request.now a.b c.name_of.ensures c.target_of.ensures told c.requires.1).0, c.requires.2)

pub said_by-requires-in-Ok : goal.said_by-requires-in-Ok
said_by-requires-in-Ok c =
    let a = c.args in
    (c.requires.0, c.requires.1, (tells a.m a.request.now a.b c.name_of.ensures c.target_of.ensures c.in-Ok.is c.requires.1).0, c.requires.2)

pub kept_of-requires : goal.kept_of-requires
kept_of-requires c =
    let a = c.args in (
      (tells a.m a.request.now a.b c.name_of.ensures c.target_of.ensures c.in-Ok.is c.requires.1).0,
      omega (arith, brief a.request.now a.b c.requires.2),
      c.requires.2.near,
    )

pub returns-in-Err-NoObject : goal.returns-in-Err-NoObject
returns-in-Err-NoObject c =
    let a = c.args in
    let told = rw c.in-Err-NoObject.field-0-is at c.in-Err-NoObject.is in
    (alone-so a.m a.request.now a.b c.name_of.ensures c.target_of.ensures told, tt)

pub returns-in_err-said_by-in-Err-NoIndex : goal.returns-in_err-said_by-in-Err-NoIndex
returns-in_err-said_by-in-Err-NoIndex c =
    let a = c.args in
    let told = rw c.in-Err-NoIndex.field-0-is at c.in-Err-NoIndex.is in
    let p = err_from_is_err_and c.from_residual.result c.from_residual.ensures.1 in
    let said = rw c.in_err-said_by-in-Err-NoIndex.was at c.said_by.ensures in
    rw (p.1, p.2) (rowless-wrong a.m _ a.request.now a.b _ said ∙ alone-so a.m a.request.now a.b c.name_of.ensures c.target_of.ensures told, tt)

pub returns-in_err-value-in-Ok : goal.returns-in_err-value-in-Ok
returns-in_err-value-in-Ok c =
    let a = c.args in
    let p = err_from_is_err_and c.from_residual-in_err-value-in-Ok.result c.from_residual-in_err-value-in-Ok.ensures.1 in
    let said = rw c.in_err-value-in-Ok.was at c.said_by-in-Ok.ensures in
    rw (p.1, p.2) (row-wrong a.m _ a.request.now a.b _ _ said ∙ alone-so a.m a.request.now a.b c.name_of.ensures c.target_of.ensures c.in-Ok.is, tt)

pub returns-in_ok-said_by-in-Err-NoIndex : goal.returns-in_ok-said_by-in-Err-NoIndex
returns-in_ok-said_by-in-Err-NoIndex c =
    let a = c.args in
    let told = rw c.in-Err-NoIndex.field-0-is at c.in-Err-NoIndex.is in
    let said = rw c.in_ok-said_by-in-Err-NoIndex.was at c.said_by.ensures in
    (rowless-right a.m _ a.request.now a.b _ said ∙ alone-so a.m a.request.now a.b c.name_of.ensures c.target_of.ensures told, tt)

pub returns-in_ok-value-in-Ok : goal.returns-in_ok-value-in-Ok
returns-in_ok-value-in-Ok c =
    let a = c.args in
    let said = rw c.in_ok-value-in-Ok.was at c.said_by-in-Ok.ensures in
    rw c.kept_of.ensures (row-right a.m _ a.request.now a.b _ _ said ∙ alone-so a.m a.request.now a.b c.name_of.ensures c.target_of.ensures c.in-Ok.is, c.requires.2.filled)
