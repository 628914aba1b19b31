-- Laws of `specs/Gaps.antt`: what moving and clearing makes, and a gap between parts that are known. Assumes nothing.
use mathlib.Core.Path.{◌≡◌, sym, ap, ◌∙◌}
use mathlib.Core.List.{List, ◌++◌, append_assoc}
use Prim.Native.Nat.{ℕ, ◌+◌, ◌-◌, ◌≤◌}
use native.Mathlib.Omega.{arith}
use lib.ListN.{length, take, drop, length-append, length-drop, take-append-drop}
use lib.Seq.{length-take-le, take_at, drop_at, slice, length-slice, take-add, drop-drop}
use Rattle.std.specs.List.{copy_within}
use Rattle.std.proofs.lemmas.Slice.{between_is}
use Rattle.octets.specs.Parts.{patch, zeros}
use Rattle.octets.specs.Gaps.{opened, closed}
use Rattle.octets.proofs.PartLaws.{length-zeros, patch-mid}

-- the octets moved up, and the gap cleared
pub opened-moved : (b : List ℕ) (from to w : ℕ) → from ≤ to → to + w ≤ length b
    → patch (copy_within b from to (from + w)) from (zeros w) ≡ opened b from to w
unfolding opened
opened-moved b from to w h k =
    let tail : List ℕ = slice from to b ++ drop (to + w) b in
    let e : length (take w (drop from b)) ≡ length (zeros w) =
    length-take-le w (drop from b) (rw length-drop (omega arith)) ∙ sym (length-zeros w) in
    let n : from + w + (to - from) ≡ to + w = omega arith in
    let moved : copy_within b from to (from + w) ≡ take (from + w) b ++ tail =
    ap (λ (k : ℕ). take (from + w) b ++ take (to - from) (drop from b) ++ drop k b) n
    ∙ ap (λ (u : List ℕ). take (from + w) b ++ u ++ drop (to + w) b) (between_is b from to)
    ∙ append_assoc (take (from + w) b) (slice from to b) (drop (to + w) b) in
    ap (λ (u : List ℕ). patch u from (zeros w))
    (moved ∙ ap (λ (u : List ℕ). u ++ tail) (take-add from w b) ∙ append_assoc (take from b) (take w (drop from b)) tail)
    ∙ patch-mid (take from b) (take w (drop from b)) tail (zeros w) from (length-take-le from b (omega arith)) e

-- the octets moved down, and the freed end cleared
pub closed-moved : (b : List ℕ) (from to w : ℕ) → from + w ≤ to → to ≤ length b
    → patch (copy_within b (from + w) to from) (to - w) (zeros w) ≡ closed b from to w
unfolding closed
closed-moved b from to w h k =
    let x : List ℕ = take from b ++ slice (from + w) to b in
    let lx : length x ≡ to - w =
    length-append (take from b) (slice (from + w) to b)
    ∙ omega (arith, length-take-le from b (omega arith), length-slice (from + w) to b (omega arith)) in
    let e : length (take w (drop (to - w) b)) ≡ length (zeros w) =
    length-take-le w (drop (to - w) b) (rw length-drop (omega arith)) ∙ sym (length-zeros w) in
    let n : to - w + w ≡ to = omega arith in
    let m : from + (to - (from + w)) ≡ to - w = omega arith in
    let moved : copy_within b (from + w) to from ≡ x ++ drop (to - w) b =
    ap (λ (k : ℕ). take from b ++ take (to - (from + w)) (drop (from + w) b) ++ drop k b) m
    ∙ ap (λ (u : List ℕ). take from b ++ u ++ drop (to - w) b) (between_is b (from + w) to) in
    ap (λ (u : List ℕ). patch u (to - w) (zeros w)) moved
    ∙ ap (λ (u : List ℕ). patch (x ++ u) (to - w) (zeros w))
    (sym (take-append-drop w (drop (to - w) b)) ∙ ap (λ (u : List ℕ). take w (drop (to - w) b) ++ u) (drop-drop w (to - w) b ∙ ap (λ (m : ℕ). drop m b) n))
    ∙ patch-mid x (take w (drop (to - w) b)) (drop to b) (zeros w) (to - w) lx e
    ∙ append_assoc x (zeros w) (drop to b)

pub opened-parts : (x v o z : List ℕ) (from to w : ℕ) → length x ≡ from → from + length v ≡ to → length o ≡ w
    → opened (x ++ (v ++ (o ++ z))) from to w ≡ x ++ (zeros w ++ (v ++ z))
unfolding opened
opened-parts x v o z from to w e f g =
    let l : length (x ++ v) ≡ to = length-append x v ∙ omega arith in
    let m : length (x ++ v ++ o) ≡ to + w = length-append (x ++ v) o ∙ omega arith in
    let part : slice from to (x ++ (v ++ (o ++ z))) ≡ v =
    ap (λ (u : List ℕ). drop from (take to u)) (sym (append_assoc x v (o ++ z)))
    ∙ ap (drop from) (take_at (x ++ v) (o ++ z) to l) ∙ drop_at x v from e in
    let rest : drop (to + w) (x ++ (v ++ (o ++ z))) ≡ z =
    ap (drop (to + w)) (sym (append_assoc x v (o ++ z)) ∙ sym (append_assoc (x ++ v) o z)) ∙ drop_at (x ++ v ++ o) z (to + w) m in
    rw (take_at x (v ++ (o ++ z)) from e, part, rest) (append_assoc x (zeros w) (v ++ z))

pub closed_parts : (x o v z : List ℕ) (from to w : ℕ) → length x ≡ from → from + w + length v ≡ to → length o ≡ w
    → closed (x ++ (o ++ (v ++ z))) from to w ≡ x ++ (v ++ (zeros w ++ z))
unfolding closed
closed_parts x o v z from to w e f g =
    let l : length (x ++ o) ≡ from + w = length-append x o ∙ omega arith in
    let m : length (x ++ o ++ v) ≡ to = length-append (x ++ o) v ∙ omega arith in
    let whole : x ++ (o ++ (v ++ z)) ≡ x ++ o ++ v ++ z = sym (append_assoc x o (v ++ z)) ∙ sym (append_assoc (x ++ o) v z) in
    let part : slice (from + w) to (x ++ (o ++ (v ++ z))) ≡ v =
    ap (λ (u : List ℕ). drop (from + w) (take to u)) whole
    ∙ ap (drop (from + w)) (take_at (x ++ o ++ v) z to m) ∙ drop_at (x ++ o) v (from + w) l in
    let rest : drop to (x ++ (o ++ (v ++ z))) ≡ z = ap (drop to) whole ∙ drop_at (x ++ o ++ v) z to m in
    rw (take_at x (o ++ (v ++ z)) from e, part, rest) (append_assoc x v (zeros w ++ z))
