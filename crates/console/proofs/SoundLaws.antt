-- Saved streams stay sound, and their images are read back. Assumes nothing.
use mathlib.Core.Path.{◌≡◌, refl, ap, ap₂, ◌∙◌}
use mathlib.Core.Bool.{Bool, true, false, cond}
use mathlib.Core.Logic.{◌⊎◌, inl, inr, ⊎_elim}
use mathlib.Core.List.{List, [], ◌∷◌, ◌++◌}
use Prim.Native.Nat.{ℕ, suc, ◌+◌, ◌-◌, ◌*◌, ◌%◌, ◌≤◌, ◌<◌}
use native.Mathlib.Omega.{arith}
use lib.Dec.{eqb, ltb}
use lib.ListN.{length, get_or, length-append}
use lib.Seq.{take-append_seam}
use borrow.Author.Tests.{ltb-true, ltb-false, eqb-true, eqb-false, lt-ltb, le-leb}
use Rattle.octets.specs.Numbers.{be_at, be_octets}
use Rattle.octets.specs.Parts.{zeros}
use Rattle.octets.proofs.PartLaws.{same_refl}
use Rattle.octets.proofs.NumberLaws.{be_at-in, length-be_octets}
use Rattle.message.specs.Answer.{most_octets}
use Rattle.console.specs.Frames.{mark, Frame, heading, filling, Step, inside, whole, wrong, arrived, sized, step, run}
use Rattle.console.specs.State.{Saved, going, ended, saved, resumed, state, image, saved_in, saved_of, sound, is_left}
use Rattle.console.specs.Streams.{AllOctets}
use Rattle.console.proofs.StateLaws.{drop-state}
use Rattle.console.proofs.LeftLaws.{either, sound-heading, sound-filling}

-- a step after which the saved stream is sound
abbrev pub Good : Step → Type 0
Good s = sound (saved s) ≡ true

good-cond : (t : Bool) (a b : Step) → (t ≡ true → Good a) → (t ≡ false → Good b) → Good (cond t a b)
good-cond true a b f g = f refl
good-cond false a b f g = g refl

pub good-heading : (c : ℕ) → c < 4 → Good (inside (heading c 0))
unfolding sound saved
good-heading c h = rw (lt-ltb c 4 h)

good_length : (c o : ℕ) → c ≡ 3 → o < 256 → Good (inside (heading (c + 1) (o * 256)))
unfolding sound saved
good_length c o k h =
    let e : o * 256 % 256 ≡ 0 = omega arith in
    rw (k, lt-ltb (o * 256) 65536 (omega arith), e)

good-wrong : Good (wrong 21) × Good (wrong 22)
unfolding sound saved
good-wrong = (refl, refl)

good-whole : (m : List ℕ) → Good (whole m)
unfolding sound saved
good-whole m = refl

good-filling : (n : ℕ) (xs : List ℕ) → n ≤ most_octets → length xs < n → Good (inside (filling n xs))
unfolding sound saved
good-filling n xs h k = rw (le-leb n most_octets h, lt-ltb (length xs) n k)

good-arrived : (n : ℕ) (xs : List ℕ) → n ≤ most_octets → length xs ≤ n → Good (arrived n xs)
unfolding arrived
good-arrived n xs h k =
    good-cond (eqb (length xs) n) (whole xs) (inside (filling n xs)) (λ e. good-whole xs) (λ e. good-filling n xs h (omega (arith, eqb-false (length xs) n e)))

good-sized : (n : ℕ) → Good (sized n)
unfolding sized
good-sized n = good-cond (ltb most_octets n) (wrong 22) (arrived n []) (λ e. good-wrong.1) (λ e. good-arrived n [] (ltb-false most_octets n e) (omega arith))

pub good-step : (f : Frame) (o : ℕ) → sound (going f) ≡ true → o < 256 → Good (step f o)
unfolding step
good-step (heading c z) o e h =
    good-cond (ltb c 3) (cond (eqb o (get_or mark c 0)) (inside (heading (c + 1) 0)) (wrong 21)) (cond (eqb c 3) (inside (heading (c + 1) (o * 256))) (sized (z + o)))
    (λ k.
    good-cond (eqb o (get_or mark c 0)) (inside (heading (c + 1) 0)) (wrong 21) (λ q. good-heading (c + 1) (omega (arith, ltb-true c 3 k))) (λ q. good-wrong.0))
    (λ k. good-cond (eqb c 3) (inside (heading (c + 1) (o * 256))) (sized (z + o)) (λ q. good_length c o (eqb-true c 3 q) h) (λ q. good-sized (z + o)))
good-step (filling n xs) o e h =
    let w = sound-filling n xs e in
    good-arrived n (xs ++ (o ∷ [])) w.0 (omega (arith, w, length-append xs (o ∷ [])))

pub good-run : (xs : List ℕ) (s : Step) → Good s → AllOctets xs → Good (run xs s).1
unfolding run saved
good-run [] s g h = g
good-run (o ∷ os) (inside f) g h = good-run os (step f o) (good-step f o g (h 0)) (λ i. h (suc i))
good-run (o ∷ os) (whole m) g h = g
good-run (o ∷ os) (wrong n) g h = g

pub saved-resumed : (s : Saved) → saved (resumed s) ≡ s
unfolding saved resumed
saved-resumed (going f) = refl
saved-resumed (ended n) = refl

pub sound-ended : (n : ℕ) → sound (ended n) ≡ true → (n ≡ 21) ⊎ (n ≡ 22)
unfolding sound
sound-ended n e = ⊎_elim (λ (h : eqb n 21 ≡ true). inl (eqb-true n 21 h)) (λ (h : eqb n 22 ≡ true). inr (eqb-true n 22 h)) (either (eqb n 21) (eqb n 22) e)

-- a state's numbers are read back
read-state : (p c z : ℕ) (xs : List ℕ) → c < 65536 → z < 65536 → saved_of (state p c z xs) ≡ saved_in p c z (xs ++ zeros (most_octets - length xs))
unfolding saved_of state
read-state p c z xs h k =
    let l : length (p ∷ be_octets 2 c) ≡ 3 = ap suc (length-be_octets 2 c) in
    let rest : List ℕ = xs ++ zeros (most_octets - length xs) in
    let ec : be_at (state p c z xs) 1 2 ≡ c = be_at-in (p ∷ []) (be_octets 2 z ++ rest) 1 2 c refl h in
    let ez : be_at (state p c z xs) 3 2 ≡ z = be_at-in (p ∷ be_octets 2 c) rest 3 2 z l k in
    ap (λ (u : List ℕ). saved_in p (be_at (state p c z xs) 1 2) (be_at (state p c z xs) 3 2) u) (drop-state p c z xs)
    ∙ ap₂ (λ (i j : ℕ). saved_in p i j rest) ec ez

ended-kept : (n : ℕ) (xs : List ℕ) → (n ≡ 21) ⊎ (n ≡ 22) → saved_in n 0 0 xs ≡ ended n
unfolding saved_in
ended-kept n xs (inl e) = rw e
ended-kept n xs (inr e) = rw e

pub saved_of-image : (s : Saved) → sound s ≡ true → saved_of (image s) ≡ s
unfolding image saved_in
saved_of-image (going (heading c z)) e =
    let w = sound-heading c z e in
    read-state 0 c z [] (omega (arith, w)) w.1
saved_of-image (going (filling n xs)) e =
    let w = sound-filling n xs e in
    read-state 1 (length xs) n xs (omega (arith, w)) (omega (arith, w))
    ∙ ap (λ (u : List ℕ). going (filling n u)) (take-append_seam xs (zeros (most_octets - length xs)))
saved_of-image (ended n) e = read-state n 0 0 [] (omega arith) (omega arith) ∙ ended-kept n (zeros most_octets) (sound-ended n e)

pub left-of-image : (s : Saved) → sound s ≡ true → is_left (image s) ≡ true
unfolding is_left
left-of-image s e = rw (saved_of-image s e, e) (same_refl (image s))
