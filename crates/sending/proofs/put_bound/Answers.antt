-- `sending::put_bound` meets its contract. Assumes nothing.
use native.Mathlib.Omega.{arith}
use mathlib.Core.Path.{ap, ◌∙◌}
use mathlib.Core.List.{List}
use Prim.Native.Nat.{ℕ}
use Rattle.octets.specs.Parts.{patch}
use Rattle.sending.proofs.SendLaws.{put_back}
use Rattle.sending.proofs.put_bound.Goals as goal

pub returns : goal.returns
returns c =
    let w = c.bound_before-from.ensures in
    let a = c.args in
    (omega (arith, w.starts), c.copy_in.ensures ∙ ap (λ (u : List ℕ). patch a.room.now a.to u) (put_back w (omega (arith, c.told-out))))
