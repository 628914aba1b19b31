-- `legality::is_legal` meets its contract: at each `return` the tests made so far decide. Assumes nothing.
use mathlib.Core.Path.{◌≡◌, sym, ap, ◌∙◌}
use mathlib.Core.Bool.{true, ◌&&◌}
use native.Mathlib.Omega.{arith}
use Rattle.names.specs.declared.model.Model.{Model}
use Rattle.block.specs.Content.{model_of}
use Rattle.block.specs.Image.{content_of}
use Rattle.block.specs.Valid.{is_model}
use Rattle.block.proofs.ValidParts.{model-known}
use Rattle.block.proofs.RoundLaws.{roomy, roomy-sized, legal-tests, not-legal-length, not-legal-model, not-legal-rows}
use Rattle.legality.proofs.is_legal.Goals as goal
use Rattle.legality.proofs.is_legal.Lts as lts
use Rattle.legality.proofs.is_legal.Reads as reads
use Rattle.legality.proofs.is_legal.Tie as tie

pub returns-then-block-ne-BLOCK_SIZE : goal.returns-then-block-ne-BLOCK_SIZE
returns-then-block-ne-BLOCK_SIZE c = sym (not-legal-length _ c.if-block-ne-BLOCK_SIZE.true)

-- the model as it was read
model_is : (c : lts.After-is_model tie.the-claims reads.Pre reads.Post) → c.is_model.result ≡ is_model (model_of (content_of c.args.block.now))
model_is c = c.is_model.ensures ∙ ap is_model c.model-m.ensures

pub returns-then-not-is_model : goal.returns-then-not-is_model
returns-then-not-is_model c =
    sym (not-legal-model c.args.block.now (sym (model_is c.before.before) ∙ c.if-not-is_model.true))

-- whether each table is in its room
rooms : (c : lts.After-fits_in3 tie.the-claims reads.Pre reads.Post) →
    let d = c.before.before in
    (d.fits_in.result && c.fits_in-2.result) && c.fits_in-3.result ≡ roomy d.args.block.now
rooms c =
    let d = c.before.before in
    rw (d.fits_in.ensures, c.fits_in-2.ensures, c.fits_in-3.ensures, ap (λ (m : Model). m.device) d.model-m.ensures)

pub returns-then-not-roomy : goal.returns-then-not-roomy
returns-then-not-roomy c = sym (not-legal-rows _ (sym (rooms c.before.before) ∙ c.if-not-roomy.true))

roomy-is : (c : lts.Else3 tie.the-claims reads.Pre reads.Post) → roomy c.args.block.now ≡ true
roomy-is c = sym (rooms c.before) ∙ c.if-not-roomy.false

pub contents_ok-requires : goal.contents_ok-requires
contents_ok-requires c =
    let b = c.args.block.now in
    let known = model-known c.model-m.result (sym c.is_model.ensures ∙ c.if-not-is_model.false) in
    (roomy-sized b c.if-block-ne-BLOCK_SIZE.false (roomy-is c.before), known.some_ports, known.few_ports)

pub returns : goal.returns
returns c =
    rw (
      legal-tests c.args.block.now (λ i. omega (arith, c.type_inv.block i)) c.if-block-ne-BLOCK_SIZE.false (roomy-is c.before.before),
      ← model_is c.before.before.before.before.before.before.before,
      c.if-not-is_model.false,
      ← c.model-m.ensures,
    )
    c.contents_ok.ensures
