-- `batch::check` meets its contract. By the block, the messages, the pairs and the tables, in their order. Assumes nothing.
use mathlib.Core.Path.{refl, sym, ap, ◌∙◌}
use native.Mathlib.Omega.{arith}
use Rattle.block.proofs.RoundLaws.{legal-sized}
use Rattle.batch.specs.Check.{refused_with}
use Rattle.batch.proofs.CallLaws.{few-model, call-illegal, call-refused, call-sets, call-pair, call-room}
use Rattle.batch.proofs.check.Goals as goal

pub returns-then-not-is_legal : goal.returns-then-not-is_legal
returns-then-not-is_legal c = c.refused.ensures ∙ ap refused_with c.from.ensures ∙ call-illegal c.args.block.now c.args.batch.now (sym c.is_legal.ensures ∙ c.if-not-is_legal.true)

pub returns-in-Err : goal.returns-in-Err
returns-in-Err c =
    call-refused c.args.block.now c.args.batch.now (sym c.is_legal.ensures ∙ c.if-not-is_legal.false) (sym c.in-Err.ensures.0) c.in-Err.ensures.1

pub model-m-requires : goal.model-m-requires
model-m-requires c = (legal-sized _ (sym c.is_legal.ensures ∙ c.if-not-is_legal.false)).long

pub first_pair-requires : goal.first_pair-requires
first_pair-requires c =
    let a = c.args in
    let l = sym c.is_legal.ensures ∙ c.if-not-is_legal.false in
    (few-model a.block.now l c.model-m.ensures, call-sets a.block.now a.batch.now l (sym c.in_default.ensures) refl)

pub returns-in-Some : goal.returns-in-Some
returns-in-Some c =
    let a = c.args in
    let l = sym c.is_legal.ensures ∙ c.if-not-is_legal.false in
    let p = c.model-m in
    let q = c.in-Some.p in
    c.offends.ensures ∙ call-pair a.block.now a.batch.now l (sym c.in_default.ensures) refl p.result p.ensures q.first q.second c.in-Some.ensures.0 (λ z. omega (arith, z, c.in-Some.ensures.1))

pub first_short-requires : goal.first_short-requires
first_short-requires c =
    let a = c.args in
    let l = sym c.is_legal.ensures ∙ c.if-not-is_legal.false in
    (l, few-model a.block.now l c.model-m.ensures, call-sets a.block.now a.batch.now l (sym c.in_default.ensures) refl)

pub returns-in-Some-first_short : goal.returns-in-Some-first_short
returns-in-Some-first_short c =
    let a = c.args in
    let l = sym c.is_legal.ensures ∙ c.if-not-is_legal.false in
    let p = c.model-m in
    c.short_of.ensures ∙ call-room a.block.now a.batch.now l (sym c.in_default.ensures) refl p.result p.ensures 0 0 c.in_default-first_pair.ensures.0 refl c.in-Some-first_short.ensures

pub returns-in-None : goal.returns-in-None
returns-in-None c =
    let a = c.args in
    let l = sym c.is_legal.ensures ∙ c.if-not-is_legal.false in
    let p = c.model-m in
    c.accepted.ensures ∙ call-room a.block.now a.batch.now l (sym c.in_default.ensures) refl p.result p.ensures 0 0 c.in_default-first_pair.ensures.0 refl c.in-None.ensures
