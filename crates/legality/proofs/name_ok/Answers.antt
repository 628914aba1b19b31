-- `legality::name_ok` meets its contract. Assumes nothing.
use mathlib.Core.Path.{sym, ◌∙◌}
use native.Mathlib.Omega.{arith}
use Rattle.legality.proofs.LegalLaws.{name-zeros, name-long}
use Rattle.legality.proofs.name_ok.Goals as goal

pub returns-then-len-gt32 : goal.returns-then-len-gt32
returns-then-len-gt32 c = sym (name-long _ _ c.if-len-gt32.true)

pub returns : goal.returns
returns c =
    c.all_zero.ensures
    ∙ sym (name-zeros c.args.len c.args.name.now (λ i. omega (arith, c.type_inv.name i)) c.requires c.if-len-gt32.false)
