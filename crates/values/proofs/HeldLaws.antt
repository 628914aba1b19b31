-- The octets of a value, which stand at the start of its memory; those of a VLAN's name. Assumes nothing.
use mathlib.Core.Path.{◌≡◌, sym, ap, ◌∙◌}
use mathlib.Core.Bool.{true, ◌&&◌}
use mathlib.Core.List.{List, ◌++◌, append_assoc}
use Prim.Native.Nat.{ℕ, ◌+◌, ◌-◌, ◌≤◌}
use native.Mathlib.Nat.{zero-add}
use native.Mathlib.Omega.{arith}
use lib.Dec.{eqb, leb}
use lib.ListN.{length, take, drop, length-append}
use lib.Seq.{take_at, drop_at, length-take-le}
use borrow.Author.Tests.{leb-true, eqb-true}
use Rattle.octets.specs.Parts.{patch, zeros, zero_run}
use Rattle.octets.proofs.PartLaws.{length-zeros, zeros-append}
use Rattle.octets.proofs.BoolLaws.{both}
use Rattle.block.specs.Image.{fit_to}
use Rattle.block.specs.Valid.{every, is_octet, name_ok}

-- octets put at the start are the first ones
pub put-first : (n : ℕ) (xs before after : List ℕ) → length xs ≡ n → after ≡ patch before 0 xs → take n after ≡ xs
unfolding patch
put-first n xs before after l e = rw e (take_at xs (drop (0 + length xs) before) n l)

zeros-split : (a b n : ℕ) → a + b ≡ n → zeros n ≡ zeros a ++ zeros b
zeros-split a b n e = sym (zeros-append a b ∙ ap zeros e)

module _ (n : ℕ) (xs : List ℕ) (h : length xs ≤ n) where
  fit_is : fit_to n xs ≡ xs ++ zeros (n - length xs)
  unfolding fit_to
  fit_is =
      let m : ℕ = n - length xs in
      rw (zeros-split m (length xs) n (omega arith), ← append_assoc xs (zeros m) (zeros (length xs)))
      (take_at (xs ++ zeros m) (zeros (length xs)) n (rw (length-append, length-zeros) (omega arith)))

  patch-fit : patch (zeros n) 0 xs ≡ fit_to n xs
  unfolding patch
  patch-fit =
      let m : ℕ = n - length xs in
      rw (fit_is, zero-add, zeros-split (length xs) m n (omega arith))
      (ap (λ (z : List ℕ). xs ++ z) (drop_at (zeros (length xs)) (zeros m) (length xs) (length-zeros (length xs))))

-- octets put at the start of 32 zeros have zeros behind them
pub put-held : (n : ℕ) (xs ys : List ℕ) → length xs ≡ n → n ≤ 32 → ys ≡ patch (zeros 32) 0 xs → (n ≤ 32) × (ys ≡ fit_to 32 (take n ys))
put-held n xs ys l h e = (h, rw (put-first n xs (zeros 32) ys l e) (e ∙ patch-fit 32 xs (omega arith)))

module _ (len : ℕ) (name : List ℕ) (ok : name_ok len name ≡ true) where
  pub name-parts : (len ≤ 32) × (length name ≡ 32)
  unfolding name_ok
  name-parts =
      let p = both (leb len 32 && eqb (length name) 32) (every is_octet name && zero_run name len (32 - len)) ok in
      let q = both (leb len 32) (eqb (length name) 32) p.0 in
      (leb-true len 32 q.0, eqb-true (length name) 32 q.1)

  -- a VLAN name has as many octets as its length says
  pub name-length : length (take len name) ≡ len
  name-length = length-take-le len name (omega (arith, name-parts.0, name-parts.1))
