-- `set::name_octets` meets its contract: octets copied over zeros. Assumes nothing.
use mathlib.Core.Path.{◌≡◌, ◌∙◌}
use mathlib.Core.List.{List}
use Prim.Native.Nat.{ℕ, ◌+◌, ◌-◌, ◌≤◌}
use native.Mathlib.Omega.{arith}
use lib.ListN.{length, take, drop, length-take}
use lib.Seq.{take_at, drop_at, take-append-add}
use Rattle.octets.specs.Parts.{part, patch, zeros}
use Rattle.octets.proofs.PartLaws.{length-zeros, zeros-append}
use Rattle.block.specs.Image.{fit_to}
use Rattle.set.proofs.name_octets.Goals as goal

-- octets over zeros: what is left of the zeros fills them up
filled : (xs : List ℕ) (m : ℕ) → patch (zeros (length xs + m)) 0 xs ≡ fit_to (length xs + m) xs
unfolding patch fit_to
filled xs m =
    let l : ℕ = length xs in
    let e : 0 + l ≡ l = omega arith in
    let f : l + m ≡ m + l = omega arith in
    let d : drop l (zeros (l + m)) ≡ zeros m = rw (← zeros-append l m) (drop_at (zeros l) (zeros m) l (length-zeros l)) in
    let t : take m (zeros (l + m)) ≡ zeros m = rw (f, ← zeros-append m l) (take_at (zeros m) (zeros l) m (length-zeros m)) in
    rw (e, d, take-append-add xs (zeros (l + m)) m, t)

filled-to : (n : ℕ) (xs : List ℕ) → length xs ≤ n → patch (zeros n) 0 xs ≡ fit_to n xs
filled-to n xs h =
    let e : length xs + (n - length xs) ≡ n = omega arith in
    rw e at (filled xs (n - length xs))

pub returns : goal.returns
unfolding zeros
returns c =
    let a = c.args in
    let e : a.at + a.len - a.at ≡ a.len = omega arith in
    c.copy_in.ensures ∙ rw e (filled-to 32 (part a.request.now a.at a.len) (rw length-take (omega arith)))
