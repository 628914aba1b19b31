-- `octets::parts::clear` meets its contract. Assumes nothing.
use mathlib.Core.Path.{ap, ◌∙◌}
use Prim.Native.Nat.{ℕ}
use native.Mathlib.Omega.{arith}
use lib.ListN.{replicate}
use Rattle.octets.specs.Parts.{zeros}
use Rattle.octets.proofs.PartLaws.{mid-patch, length-zeros, lent_length}
use Rattle.octets.proofs.parts.clear.Goals as goal

pub returns : goal.returns
unfolding zeros
returns c =
    let a = c.args in
    mid-patch _ _ _ _ _
    (c.fill.ensures.after (λ y e. e) ∙ ap (λ (k : ℕ). replicate k 0) (lent_length a.s.now a.at a.n c.requires))
    (omega (arith, length-zeros a.n))
