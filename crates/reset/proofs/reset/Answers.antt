-- `reset::reset` meets its contract: the rows close up, and what is left behind them is taken out. Assumes nothing.
use mathlib.Core.Path.{ap, ◌∙◌}
use native.Mathlib.Omega.{arith}
use lib.ListN.{length}
use Rattle.block.specs.Content.{Content}
use Rattle.block.specs.Image.{image, content_of}
use Rattle.block.specs.Stored.{Storable}
use Rattle.block.proofs.RoundLaws.{valid-storable, legal-valid}
use Rattle.reset.proofs.ResetLaws.{stored-held, held-sized, closed, closed-storable, stay-few, closed-cut}
use Rattle.reset.proofs.reset.Goals as goal

pub cut-requires : goal.cut-requires
cut-requires c =
    let u = c.close_up-kept in
    let b = c.args.block.now in
    let d : Content = content_of b in
    let h = stored-held (closed d) (closed-storable d (valid-storable d (legal-valid b c.requires).0)) u.ensures.1 in
    ((held-sized h.1).long, h.1.shape.few_statics, omega (arith, u.ensures.0, stay-few d, ap (λ (k : Content). length k.statics) h.0))

pub returns : goal.returns
returns c =
    let u = c.close_up-kept in
    let b = c.args.block.now in
    let k : Content = content_of b in
    let r : Storable (closed k) = closed-storable k (valid-storable k (legal-valid b c.requires).0) in
    c.cut.ensures (closed k) r.shape (omega (arith, u.ensures.0, stay-few k)) u.ensures.1 ∙ ap image (closed-cut k u.ensures.0)
