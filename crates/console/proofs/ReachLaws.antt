-- Each sound state is left by a stream: octets that lead to it from a fresh state on. Assumes nothing.
use mathlib.Core.Path.{◌≡◌, refl, sym, ap, ◌∙◌}
use mathlib.Core.Bool.{true, ◌&&◌}
use mathlib.Core.Logic.{◌⊎◌, inl, inr, ⊎_elim}
use mathlib.Core.List.{List, [], ◌∷◌, ◌++◌, append-nil}
use Prim.Native.Nat.{ℕ, zero, suc, ◌+◌, ◌-◌, ◌*◌, ◌/◌, ◌%◌, ◌≤◌, ◌<◌}
use native.Mathlib.Omega.{arith}
use lib.Dec.{eqb, ltb}
use lib.ListN.{length, drop}
use lib.Seq.{drop-length}
use borrow.Author.Tests.{ltb-true, eqb-true}
use Rattle.octets.specs.Parts.{zeros}
use Rattle.octets.proofs.BoolLaws.{both}
use Rattle.octets.proofs.OctetLaws.{octets-drop, octets-none, octets-cons}
use Rattle.message.specs.Answer.{most_octets}
use Rattle.console.specs.Frames.{mark, Frame, heading, filling, fresh, Step, inside, whole, wrong, sized, step, run}
use Rattle.console.specs.State.{Saved, going, ended, saved, image, sound}
use Rattle.console.specs.Streams.{Heard, silent, noted, hears, AllOctets}
use Rattle.console.proofs.RunLaws.{fills-part}
use Rattle.console.proofs.HeaderLaws.{headed, sized-arrived}
use Rattle.console.proofs.StateLaws.{drop-state}
use Rattle.console.proofs.LeftLaws.{either, sound-filling}
use Rattle.console.proofs.SoundLaws.{sound-ended}
use Rattle.console.proofs.StreamLaws.{octets-left, hears-call}

-- octets that a fresh stream takes to the last, and the state that remains
noted-remains : (s : Step) (h : Heard) → (noted s h).remains ≡ h.remains
unfolding noted
noted-remains (inside f) h = refl
noted-remains (whole m) h = refl
noted-remains (wrong n) h = refl

reaches : (xs : List ℕ) (f : Frame) {s : Step} → run xs (inside f) ≡ (length xs, s) → (hears xs (going f)).remains ≡ image (saved s)
unfolding hears
reaches xs f {s} e =
    let k : hears xs (going f) ≡ noted (run xs (inside f)).1 (hears (drop (run xs (inside f)).0 xs ++ []) (saved (run xs (inside f)).1)) =
    ap (λ (u : List ℕ). hears u (going f)) (sym (append-nil xs)) ∙ hears-call xs [] f in
    let m : hears xs (going f) ≡ noted s (silent (image (saved s))) =
    k ∙ ap (λ (r : ℕ × Step). noted r.1 (hears (drop r.0 xs ++ []) (saved r.1))) e
    ∙ ap (λ (u : List ℕ). noted s (hears (u ++ []) (saved s))) (drop-length xs) in
    ap (λ (h : Heard). h.remains) m ∙ noted-remains s (silent (image (saved s)))

octets-mark : (xs : List ℕ) → AllOctets xs → AllOctets (127 ∷ 0 ∷ 2 ∷ xs)
octets-mark xs o = octets-cons 127 (0 ∷ 2 ∷ xs) (omega arith) (octets-cons 0 (2 ∷ xs) (omega arith) (octets-cons 2 xs (omega arith) o))

abbrev pub Reached : Saved → Type 0
Reached s = (xs : List ℕ) × AllOctets xs × ((hears xs (going fresh)).remains ≡ image s)

reach : (s : Saved) (xs : List ℕ) (t : Step) → saved t ≡ s → AllOctets xs → run xs (inside fresh) ≡ (length xs, t) → Reached s
reach s xs t e o r = (xs, o, reaches xs fresh r ∙ ap image e)

marked : (c : ℕ) → c < 4 → Reached (going (heading c 0))
unfolding run step saved
marked zero h = reach (going (heading 0 0)) [] (inside (heading 0 0)) refl octets-none refl
marked (suc zero) h = reach (going (heading 1 0)) (127 ∷ []) (inside (heading 1 0)) refl (octets-cons 127 [] (omega arith) octets-none) refl
marked (suc (suc zero)) h =
    reach (going (heading 2 0)) (127 ∷ 0 ∷ []) (inside (heading 2 0)) refl (octets-cons 127 (0 ∷ []) (omega arith) (octets-cons 0 [] (omega arith) octets-none)) refl
marked (suc (suc (suc zero))) h = reach (going (heading 3 0)) mark (inside (heading 3 0)) refl (octets-mark [] octets-none) refl
marked (suc (suc (suc (suc c)))) h = absurd (omega arith)

lengthened : (z : ℕ) → z < 65536 → z % 256 ≡ 0 → Reached (going (heading 4 z))
unfolding run step saved
lengthened z h k =
    let e : z / 256 * 256 ≡ z = omega arith in
    reach (going (heading 4 z)) (127 ∷ 0 ∷ 2 ∷ z / 256 ∷ []) (inside (heading 4 (z / 256 * 256))) (ap (λ (n : ℕ). going (heading 4 n)) e)
    (octets-mark (z / 256 ∷ []) (octets-cons (z / 256) [] (omega arith) octets-none))
    refl

filled : (n : ℕ) (xs : List ℕ) → n ≤ most_octets → length xs < n → AllOctets xs → Reached (going (filling n xs))
unfolding saved
filled n xs h k o =
    let e : n / 256 * 256 + n % 256 ≡ n = omega arith in
    let r : run xs (sized (n / 256 * 256 + n % 256)) ≡ (length xs, inside (filling n xs)) =
    ap (λ (m : ℕ). run xs (sized m)) e ∙ ap (run xs) (sized-arrived n h) ∙ fills-part n [] xs (omega arith) in
    let five : length xs + 1 + 1 + 1 + 1 + 1 ≡ length (127 ∷ 0 ∷ 2 ∷ n / 256 ∷ n % 256 ∷ xs) = omega arith in
    reach (going (filling n xs)) (127 ∷ 0 ∷ 2 ∷ n / 256 ∷ n % 256 ∷ xs) (inside (filling n xs)) refl
    (octets-mark (n / 256 ∷ n % 256 ∷ xs) (octets-cons (n / 256) (n % 256 ∷ xs) (omega arith) (octets-cons (n % 256) xs (omega arith) o)))
    (headed (n / 256) (n % 256) xs ∙ ap (λ (u : ℕ × Step). (u.0 + 1 + 1 + 1 + 1 + 1, u.1)) r ∙ ap (λ (m : ℕ). (m, inside (filling n xs))) five)

finished : (n : ℕ) → (n ≡ 21) ⊎ (n ≡ 22) → Reached (ended n)
unfolding run step sized saved
finished n (inl e) = rw e (reach (ended 21) (0 ∷ []) (wrong 21) refl (octets-cons 0 [] (omega arith) octets-none) refl)
finished n (inr e) =
    rw e
    (reach (ended 22) (127 ∷ 0 ∷ 2 ∷ 255 ∷ 255 ∷ []) (wrong 22) refl (octets-mark (255 ∷ 255 ∷ []) (octets-cons 255 (255 ∷ []) (omega arith) (octets-cons 255 [] (omega arith) octets-none))) refl)

headings : (c z : ℕ) → sound (going (heading c z)) ≡ true → Reached (going (heading c z))
unfolding sound
headings c z e =
    ⊎_elim
    (λ (h : (ltb c 4 && eqb z 0) ≡ true).
    let w = both (ltb c 4) (eqb z 0) h in
    rw (eqb-true z 0 w.1) (marked c (ltb-true c 4 w.0)))
    (λ (h : (eqb c 4 && (ltb z 65536 && eqb (z % 256) 0)) ≡ true).
    let w = both (eqb c 4) (ltb z 65536 && eqb (z % 256) 0) h in
    let v = both (ltb z 65536) (eqb (z % 256) 0) w.1 in
    rw (eqb-true c 4 w.0) (lengthened z (ltb-true z 65536 v.0) (eqb-true (z % 256) 0 v.1)))
    (either (ltb c 4 && eqb z 0) (eqb c 4 && (ltb z 65536 && eqb (z % 256) 0)) e)

pub reached : (s : Saved) → sound s ≡ true → AllOctets (image s) → Reached s
unfolding image
reached (going (heading c z)) e o = headings c z e
reached (going (filling n xs)) e o =
    let w = sound-filling n xs e in
    filled n xs w.0 w.1 (octets-left xs (zeros (most_octets - length xs)) (rw (drop-state 1 (length xs) n xs) at (octets-drop 5 (image (going (filling n xs))) o)))
reached (ended n) e o = finished n (sound-ended n e)
