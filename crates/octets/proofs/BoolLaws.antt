-- Laws of tests: two of them together, a choice by two of them, cases by a test, by whether two numbers are equal, and by how they stand. Assumes nothing.
use Prim.Native.Nat.{ℕ, ◌≤◌, ◌<◌}
use native.Mathlib.Omega.{arith}
use mathlib.Core.Path.{◌≡◌, refl, sym}
use mathlib.Core.Bool.{Bool, true, false, cond, ◌&&◌}
use mathlib.Core.Logic.{◌⊎◌, inl, inr, ⊎_elim}
use lib.Dec.{ltb, eqb}
use borrow.Author.Tests.{ltb-true, ltb-false, eqb-true, eqb-false}

-- both of two tests hold where their `&&` does
pub both : (a b : Bool) → a && b ≡ true → (a ≡ true) × (b ≡ true)
both true b e = (refl, e)
both false true e = (e, refl)
both false false e = (e, e)

pub left-of : (a b : Bool) → a && b ≡ true → a ≡ true
left-of a b e = (both a b e).0

pub right_of : (a b : Bool) → a && b ≡ true → b ≡ true
right_of a b e = (both a b e).1

pub and_both : (a b : Bool) → a ≡ true → b ≡ true → a && b ≡ true
and_both a b p q = rw (p, q)

-- tests that hold together are equal
pub same_truth : (a b : Bool) → (a ≡ true → b ≡ true) → (b ≡ true → a ≡ true) → a ≡ b
same_truth true b f g = sym (f refl)
same_truth false true f g = g refl
same_truth false false f g = refl

-- a choice within a choice is one by both tests
pub cond_both : (a b : Bool) (x y z : ℕ) → a && b ≡ true → x ≡ cond a (cond b x y) z
cond_both true true x y z e = refl
cond_both true false x y z e = cc
cond_both false b x y z e = cc

pub cond-not-both : (a b : Bool) (x y : ℕ) → a && b ≡ false → y ≡ cond a (cond b x y) y
cond-not-both true true x y e = cc
cond-not-both true false x y e = refl
cond-not-both false b x y e = refl

pub both-lt : (i n j m : ℕ) → (ltb i n && ltb j m) ≡ true → (i < n) × (j < m)
both-lt i n j m e = let b = both (ltb i n) (ltb j m) e in (ltb-true i n b.0, ltb-true j m b.1)

-- a test that cannot hold is false
pub is_false : (t : Bool) → (t ≡ true → ⊥) → t ≡ false
is_false true h = absurd (h refl)
is_false false h = refl

-- no test goes both ways
pub not-both-ways : {C : Type 0} {t : Bool} → t ≡ true → t ≡ false → C
not-both-ways {C} {t} p q = absurd (let z : ◌≡◌ {A = ℕ} 0 1 = cc in omega arith)

-- a test counts as 1 at most
pub one-or-none : (t : Bool) → cond t 1 0 ≤ 1
one-or-none true = omega arith
one-or-none false = omega arith

pub by_bool : {C : Type 0} (t : Bool) → (t ≡ true → C) → (t ≡ false → C) → C
by_bool true f g = f refl
by_bool false f g = g refl

pub by-eq : {C : Type 0} (a b : ℕ) → (a ≡ b → C) → ((a ≡ b → ⊥) → C) → C
by-eq a b f g = by_bool (eqb a b) (λ e. f (eqb-true a b e)) (λ e. g (eqb-false a b e))

-- how two numbers stand
pub tri : (x y : ℕ) → (x < y) ⊎ ((x ≡ y) ⊎ (y < x))
tri x y = go (ltb x y) refl (ltb y x) refl
  where
    go : (a : Bool) → ltb x y ≡ a → (b : Bool) → ltb y x ≡ b → (x < y) ⊎ ((x ≡ y) ⊎ (y < x))
    go true p b q = inl (ltb-true x y p)
    go false p true q = inr (inr (ltb-true y x q))
    go false p false q = inr (inl (omega (arith, ltb-false x y p, ltb-false y x q)))

pub by-tri : {C : Type 0} (a b : ℕ) → (a < b → C) → (a ≡ b → C) → (b < a → C) → C
by-tri a b f g h = ⊎_elim f (⊎_elim g h) (tri a b)
