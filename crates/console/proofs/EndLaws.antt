-- Every list of chunks can be offered to the end: after each call there are fewer octets and chunks to come. Assumes nothing.
use mathlib.Core.Path.{◌≡◌, refl, sym, ap, ◌∙◌}
use mathlib.Core.Bool.{Bool, true, false, cond, ◌&&◌}
use mathlib.Core.List.{List, [], ◌∷◌, ◌++◌, flatten}
use Prim.Native.Nat.{ℕ, zero, suc, ◌+◌, ◌≤◌, ◌<◌}
use native.Mathlib.Omega.{arith}
use lib.Dec.{eqb, ltb}
use lib.ListN.{length, drop, length-append, length-drop}
use borrow.Author.Tests.{ltb-true, eqb-true}
use Rattle.octets.proofs.BoolLaws.{both}
use Rattle.message.specs.Answer.{most_octets}
use Rattle.console.specs.Frames.{Frame, inside, wrong, run}
use Rattle.console.specs.State.{Saved, going, ended, saved, resumed, image, sound}
use Rattle.console.specs.Calls.{ConsoleOutcome, told, taking}
use Rattle.console.specs.Streams.{Heard, silent, adding, again, Session, over, call, AllOctets}
use Rattle.console.proofs.RunLaws.{run-wrong}
use Rattle.console.proofs.StreamLaws.{octets-left, taking-image, after_call, sound-after, again-octets, refuses, told-taken}

-- a chunk with octets has some of them taken
run-takes : (c : List ℕ) (f : Frame) → 0 < length c → 0 < (run c (inside f)).0
unfolding run
run-takes [] f h = absurd (omega arith)
run-takes (o ∷ os) f h = omega arith

-- the measure
fewer : (c : List ℕ) (cs : List (List ℕ)) (o : ConsoleOutcome) → (o.number ≡ 0 → 0 < length c → 0 < o.taken)
    → length (flatten (again o c cs)) + length (again o c cs) < length (flatten (c ∷ cs)) + length (c ∷ cs)
unfolding again flatten
fewer c cs o h = go (eqb o.number 0 && ltb o.taken (length c)) refl
  where
    l : length (c ++ flatten cs) ≡ length c + length (flatten cs)
    l = length-append c (flatten cs)

    go : (u : Bool) → (eqb o.number 0 && ltb o.taken (length c)) ≡ u
        → length (flatten (cond u (drop o.taken c ∷ cs) cs)) + length (cond u (drop o.taken c ∷ cs) cs) < length (c ++ flatten cs) + length (c ∷ cs)
    go true e =
        let w = both (eqb o.number 0) (ltb o.taken (length c)) e in
        let m : o.taken < length c = ltb-true o.taken (length c) w.1 in
        let p : 0 < o.taken = h (eqb-true o.number 0 w.0) (omega arith) in
        omega (arith, l, length-append (drop o.taken c) (flatten cs), length-drop o.taken c)
    go false e = omega (arith, l)

ended-number : (room : List ℕ) (n : ℕ) → sound (ended n) ≡ true → (told room (0, wrong n)).number ≡ 0 → ⊥
unfolding told
ended-number room n e z = refuses n e z

call-fewer : (s : Saved) (c : List ℕ) (cs : List (List ℕ)) (room : List ℕ) → sound s ≡ true → most_octets ≤ length room
    → length (flatten (again (taking (image s) c room) c cs)) + length (again (taking (image s) c room) c cs) < length (flatten (c ∷ cs)) + length (c ∷ cs)
unfolding resumed
call-fewer (going f) c cs room e r =
    let t : taking (image (going f)) c room ≡ told room (run c (inside f)) = taking-image (going f) c room e r in
    fewer c cs (taking (image (going f)) c room) (λ _ k. rw (t, told-taken room (run c (inside f)).0 (run c (inside f)).1) (run-takes c f k))
call-fewer (ended n) c cs room e r =
    let t : taking (image (ended n)) c room ≡ told room (0, wrong n) = taking-image (ended n) c room e r ∙ ap (told room) (run-wrong c n) in
    fewer c cs (taking (image (ended n)) c room) (λ z. absurd (ended-number room n e (ap (λ (u : ConsoleOutcome). u.number) (sym t) ∙ z)))

from-state : {a b : List ℕ} {cs : List (List ℕ)} {h : Heard} → a ≡ b → Session b cs h → Session a cs h
from-state e p = rw e p

first-octets : (c : List ℕ) (cs : List (List ℕ)) → AllOctets (flatten (c ∷ cs)) → AllOctets c
unfolding flatten
first-octets c cs o = octets-left c (flatten cs) o

pub ends : (n : ℕ) (s : Saved) (cs : List (List ℕ)) (room : List ℕ) → sound s ≡ true → AllOctets (flatten cs) → most_octets ≤ length room
    → length (flatten cs) + length cs ≤ n
    → (h : Heard) × Session (image s) cs h
ends zero s [] room e o r k = (silent (image s), over refl)
ends zero s (c ∷ cs) room e o r k = absurd (omega arith)
ends (suc n) s [] room e o r k = (silent (image s), over refl)
ends (suc n) s (c ∷ cs) room e o r k =
    let q : Saved = saved (run c (resumed s)).1 in
    let oc : AllOctets c = first-octets c cs o in
    let rest : (h : Heard) × Session (image q) (again (taking (image s) c room) c cs) h =
    ends n q (again (taking (image s) c room) c cs) room (sound-after s c e oc) (again-octets c cs (taking (image s) c room) o) r
    (omega (arith, call-fewer s c cs room e r)) in
    let t : Session (taking (image s) c room).state (again (taking (image s) c room) c cs) rest.0 = from-state (after_call s c room e r) rest.1 in
    (adding (taking (image s) c room) rest.0, call room r t refl)
