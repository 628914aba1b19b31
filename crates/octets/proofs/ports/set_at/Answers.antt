-- `octets::ports::set_at` meets its contract. Assumes nothing.
use mathlib.Core.Path.{◌≡◌, ap, ◌∙◌}
use mathlib.Core.List.{List, ◌++◌}
use Prim.Native.Nat.{ℕ, ◌+◌, ◌-◌}
use native.Mathlib.Nat.{zero-add}
use lib.ListN.{length, drop}
use mir.Syntax.{w64}
use Rattle.std.specs.Int.{from_be_bytes}
use Rattle.octets.specs.Parts.{part, patch, zeros}
use Rattle.octets.specs.Ports.{set_of}
use Rattle.octets.proofs.PartLaws.{lent-is}
use Rattle.octets.proofs.PortLaws.{set-filled}
use Rattle.octets.proofs.ports.set_at.Goals as goal

pub returns : goal.returns
unfolding zeros patch
returns c =
    let a = c.args in
    let xs : List ℕ = part a.s.now a.at (a.at + a.n - a.at) in
    let e : c.copy_in.new.s ≡ xs ++ drop (length xs) (zeros 8) = c.copy_in.ensures ∙ ap (λ (k : ℕ). xs ++ drop k (zeros 8)) (zero-add (length xs)) in
    c.from_be_bytes.ensures ∙ ap (from_be_bytes w64) e ∙ set-filled xs (length xs) ∙ ap set_of (lent-is a.s.now a.at a.n)
