-- Laws of contents. Assumes nothing.
use Prim.Native.Nat.{ℕ}
use mathlib.Core.Path.{◌≡◌, refl, sym, subst}
use mathlib.Core.Bool.{Bool, true, false}
use borrow.Author.Tests.{eqb-true, eqb-false}
use lib.Dec.{eqb}

-- a fact of every tag: of one tag, and of the others
pub pick : (P : ℕ → Type 0) (t tag : ℕ) → P t → ((tag ≡ t → ⊥) → P tag) → P tag
pick P t tag p f = go (eqb tag t) refl
  where
    go : (b : Bool) → eqb tag t ≡ b → P tag
    go true e = subst P (sym (eqb-true tag t e)) p
    go false e = f (eqb-false tag t e)
