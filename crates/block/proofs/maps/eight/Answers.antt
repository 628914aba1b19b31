-- `block::maps::eight` meets its contract. Assumes nothing.
use mathlib.Core.Path.{sym, ◌∙◌}
use native.Mathlib.Nat.{add_assoc}
use native.Mathlib.Omega.{arith}
use Rattle.block.specs.Rows.{rows_at}
use Rattle.block.proofs.MapLaws.{eight_cells}
use Rattle.block.proofs.maps.eight.Goals as goal

pub returns : goal.returns
unfolding rows_at
returns c =
    let s = c.before.before.before.before.before.before.before.before.before in
    sym (eight_cells s.args.block.now s.args.k (λ i. omega (arith, c.type_inv.block i)) s.requires.1 ∙ simp add_assoc)
