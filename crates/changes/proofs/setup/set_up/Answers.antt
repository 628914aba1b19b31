-- `changes::setup::set_up` meets its contract. Assumes nothing.
use mathlib.Core.Path.{sym, ◌∙◌}
use mathlib.Core.Bool.{false≢true}
use native.Mathlib.Omega.{arith}
use Rattle.block.proofs.ValidParts.{model-known}
use Rattle.changes.proofs.SetUpLaws.{refused, taken}
use Rattle.changes.proofs.setup.set_up.Goals as goal

pub returns-then-block-ne-BLOCK_SIZE : goal.returns-then-block-ne-BLOCK_SIZE
returns-then-block-ne-BLOCK_SIZE c = let a = c.args in refused a.block.now a.m a.address.now _ (λ h. omega arith)

pub returns-then-not-is_model : goal.returns-then-not-is_model
returns-then-not-is_model c =
    let a = c.args in
    refused a.block.now a.m a.address.now _
    (λ h. false≢true (sym c.if-not-is_model.true ∙ c.is_model.ensures ∙ h.1))

pub returns-then-address-ne6 : goal.returns-then-address-ne6
returns-then-address-ne6 c =
    let a = c.args in
    refused a.block.now a.m a.address.now _ (λ h. omega arith)

pub write_fresh-requires : goal.write_fresh-requires
write_fresh-requires c =
    let a = c.args in
    let known = model-known a.m (sym c.is_model.ensures ∙ c.if-not-is_model.false) in
    (c.if-block-ne-BLOCK_SIZE.false, known.few_ports, c.if-address-ne6.false)

pub returns : goal.returns
returns c =
    let a = c.args in
    let k = sym c.is_model.ensures ∙ c.if-not-is_model.false in
    let t = taken a.block.now a.m a.address.now (omega arith) k (omega arith) in
    (t.0, c.write_fresh.ensures ∙ t.1)
