-- `octets::parts::copy_in` meets its contract. Assumes nothing.
use mathlib.Core.Path.{◌≡◌, ap, ◌∙◌, sym}
use mathlib.Core.List.{List}
use Prim.Native.Nat.{ℕ, ◌+◌}
use native.Mathlib.Omega.{arith}
use native.Mathlib.Numerals.{add-one}
use lib.ListN.{length, take, set, get_or}
use lib.Seq.{length-take-le, take-suc, take-length}
use Rattle.octets.specs.Parts.{patch}
use Rattle.octets.proofs.PartLaws.{patch-store, patch-none}
use Rattle.octets.proofs.parts.copy_in.Goals as goal

pub loop-i-init : goal.loop-i-init
loop-i-init c = patch-none _ _

pub loop-i-preserved : goal.loop-i-preserved
loop-i-preserved c =
    let l = c.loop-i in
    let a = c.args in
    let src : List ℕ = a.src.now in
    let e : length (take l.i src) ≡ l.i = length-take-le l.i src (omega arith) in
    ap (λ (u : List ℕ). set u (a.at + l.i) (get_or src l.i 0)) l.invariant
    ∙ ap (λ (k : ℕ). set (patch a.s.now a.at (take l.i src)) (a.at + k) (get_or src l.i 0)) (sym e)
    ∙ patch-store a.s.now a.at (take l.i src) (get_or src l.i 0) (omega arith)
    ∙ ap (patch a.s.now a.at) (rw (add-one, take-suc src l.i 0 c.loop-i-test.true))

pub returns : goal.returns
returns c =
    let l = c.loop-i in
    let a = c.args in
    let e : l.i ≡ length a.src.now = omega arith in
    l.invariant ∙ ap (λ (k : ℕ). patch a.s.now a.at (take k a.src.now)) e ∙ ap (patch a.s.now a.at) (take-length a.src.now)
