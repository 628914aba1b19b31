-- What set-up takes, and what it refuses. Assumes nothing.
use mathlib.Core.Path.{◌≡◌}
use mathlib.Core.Bool.{true, false, cond, ◌&&◌}
use mathlib.Core.List.{List}
use Prim.Native.Nat.{ℕ}
use lib.Dec.{eqb}
use lib.ListN.{length}
use borrow.Author.Tests.{eqb-true, eq-eqb}
use Rattle.std.proofs.Common.{Ok, Err}
use Rattle.octets.proofs.BoolLaws.{both, is_false}
use Rattle.names.specs.declared.model.Model.{Model}
use Rattle.block.specs.Layout.{block_size}
use Rattle.block.specs.Image.{image}
use Rattle.block.specs.Valid.{is_model}
use Rattle.block.specs.Fresh.{fresh, set_up_takes, after_set_up}
use Rattle.changes.specs.SetUp.{set_up_number}
use Rattle.changes.specs.declared.setup.SetUpRefused.{SetUpRefused}

module _ (b : List ℕ) (m : Model) (a : List ℕ) where
  -- what set-up refuses stays as it is
  pub refused : (e : SetUpRefused) → ((length b ≡ block_size) × (is_model m ≡ true) × (length a ≡ 6) → ⊥)
      → (set_up_number (Err e) ≡ cond (set_up_takes b m a) 0 9) × (b ≡ after_set_up b m a)
  unfolding set_up_takes after_set_up
  refused e h =
      let t : set_up_takes b m a ≡ false = is_false (set_up_takes b m a) (λ t.
      let p = both (eqb (length b) block_size) (is_model m && eqb (length a) 6) t in
      let q = both (is_model m) (eqb (length a) 6) p.1 in
      h (eqb-true (length b) block_size p.0, q.0, eqb-true (length a) 6 q.1)) in
      (rw t, rw t)

  -- what it takes becomes a fresh block
  pub taken : length b ≡ block_size → is_model m ≡ true → length a ≡ 6
      → (set_up_number (Ok tt) ≡ cond (set_up_takes b m a) 0 9) × (image (fresh m a) ≡ after_set_up b m a)
  unfolding set_up_takes after_set_up
  taken h k e =
      let t : set_up_takes b m a ≡ true = rw (eq-eqb (length b) block_size h, k, eq-eqb (length a) 6 e) in
      (rw t, rw t)
