-- `legality::cells_all` meets its contract. The invariant: the answer of each test that the closure tells is that of the cells left. Assumes nothing.
use mathlib.Core.Path.{◌≡◌}
use mathlib.Core.Bool.{Bool}
use Prim.Native.Nat.{ℕ, ◌^◌, ◌<◌}
use lib.ListN.{take, drop}
use Rattle.block.specs.Image.{content_of}
use Rattle.block.specs.Valid.{every}
use Rattle.legality.proofs.cells_all.Given as goal

abbrev pub invariant-loop-i : goal.invariant-loop-i
invariant-loop-i g l =
    let xs = take l.m (drop l.k (content_of l.block).cells) in
    (t : ℕ → Bool) → ((v : ℕ) (r : Bool) → v < 2 ^ 32 → goal.F-post g l.test v r → r ≡ t v) → every t xs ≡ every t (drop l.i xs)
