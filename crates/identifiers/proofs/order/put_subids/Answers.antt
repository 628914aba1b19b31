use mathlib.Core.Path.{◌≡◌, ap, ◌∙◌}
use mathlib.Core.List.{List, ◌++◌, append-nil}
use Prim.Native.Nat.{ℕ, ◌≤◌, ◌<◌, ◌*◌, ◌+◌}
use native.Mathlib.Omega.{arith}
use native.Mathlib.Numerals.{add-one}
use lib.ListN.{length, take, get_or}
use lib.Seq.{length-take-le, take-suc}
use Rattle.octets.specs.Numbers.{be_octets}
use Rattle.octets.specs.Parts.{patch}
use Rattle.octets.proofs.NumberLaws.{length-be_octets}
use Rattle.octets.proofs.PartLaws.{patch-none, patch-patch}
use Rattle.names.specs.SubIds.{name_octets}
use Rattle.names.proofs.SubIdLaws.{length-name_octets, name_octets-append}
use Rattle.identifiers.proofs.order.put_subids.Goals as goal

-- the octets of one sub-id more
one_more : (l : List ℕ) (i : ℕ) → i < length l → name_octets (take (i + 1) l) ≡ name_octets (take i l) ++ be_octets 4 (get_or l i 0)
unfolding name_octets
one_more l i h =
    rw (add-one, take-suc l i 0 h, name_octets-append) (ap (λ (u : List ℕ). name_octets (take i l) ++ u) (append-nil (be_octets 4 (get_or l i 0))))

-- a put makes the patch one sub-id longer
turn : (s : List ℕ) (at : ℕ) (l : List ℕ) (i : ℕ) → i < length l → at + 4 * (i + 1) ≤ length s
    → patch (patch s at (name_octets (take i l))) (at + 4 * i) (be_octets 4 (get_or l i 0)) ≡ patch s at (name_octets (take (i + 1) l))
turn s at l i h k =
    let e : length (name_octets (take i l)) ≡ 4 * i = length-name_octets (take i l) ∙ omega (arith, length-take-le i l (omega arith)) in
    rw (one_more l i h) (patch-patch s at (name_octets (take i l)) (be_octets 4 (get_or l i 0)) (at + 4 * i) (omega arith)
    (omega (arith, length-be_octets 4 (get_or l i 0))))

pub loop-i-init : goal.loop-i-init
unfolding name_octets
loop-i-init c = patch-none _ _

pub loop-i-preserved : goal.loop-i-preserved
loop-i-preserved c =
    let a = c.args in
    cc (turn a.s.now a.at a.ids.now c.loop-i.i (omega arith) (omega arith))
