-- `legality::two_small` meets its contract. Assumes nothing.
use mathlib.Core.Path.{ap, ◌∙◌}
use Prim.Native.Nat.{ℕ}
use native.Mathlib.Omega.{arith}
use lib.Bits.{bit_and}
use lib.Dec.{eqb}
use Rattle.legality.proofs.SmallLaws.{above_seven, two_cells}
use Rattle.legality.proofs.two_small.Goals as goal

pub returns : goal.returns
returns c =
    ap (λ (x : ℕ). eqb (bit_and x above_seven) 0) c.be8.ensures
    ∙ two_cells c.args.block.now c.args.k (λ i. omega (arith, c.type_inv.block i)) c.requires.1
