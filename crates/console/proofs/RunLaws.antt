-- Laws of `specs/Frames.antt`: octets one by one, and contents all at once. Assumes nothing.
use mathlib.Core.Path.{◌≡◌, refl, ap, ◌∙◌}
use mathlib.Core.List.{List, [], ◌∷◌, ◌++◌, append-nil}
use Prim.Native.Nat.{ℕ, zero, suc, ◌+◌, ◌≤◌, ◌<◌}
use native.Mathlib.Numerals.{add-one}
use native.Mathlib.Omega.{arith}
use lib.ListN.{length, take, drop, get_or, length-append}
use lib.Seq.{drop-cons, append_snoc}
use borrow.Author.Tests.{eq-eqb, ne_eqb}
use Rattle.console.specs.Frames.{Frame, filling, Step, inside, whole, wrong, arrived, step, run}
use Rattle.console.specs.Positions.{moved}

-- a message and a wrong octet end the run
pub run-whole : (os : List ℕ) (m : List ℕ) → run os (whole m) ≡ (0, whole m)
unfolding run
run-whole [] m = refl
run-whole (o ∷ os) m = refl

pub run-wrong : (os : List ℕ) (n : ℕ) → run os (wrong n) ≡ (0, wrong n)
unfolding run
run-wrong [] n = refl
run-wrong (o ∷ os) n = refl

pub run_none : (s : Step) → run [] s ≡ (0, s)
unfolding run
run_none s = refl

pub run_inside : (f : Frame) (o : ℕ) (os : List ℕ) → run (o ∷ os) (inside f) ≡ moved 1 (run os (step f o))
unfolding run
run_inside f o os = refl

-- a turn: one octet more is taken
pub run-turn : (xs : List ℕ) (i : ℕ) (f : Frame) → i < length xs → moved i (run (drop i xs) (inside f)) ≡ moved (i + 1) (run (drop (i + 1) xs) (step f (get_or xs i 0)))
run-turn xs i f h =
    let r : ℕ × Step = run (drop (suc i) xs) (step f (get_or xs i 0)) in
    let e : r.0 + 1 + i ≡ r.0 + (i + 1) = omega arith in
    rw (drop-cons xs i 0 h, run_inside, add-one i) (ap (λ (k : ℕ). (k, r.1)) (rw (add-one i) at e))

-- a message with contents missing, and one with all of them
pub arrived-part : (n : ℕ) (xs : List ℕ) → length xs < n → arrived n xs ≡ inside (filling n xs)
unfolding arrived
arrived-part n xs h = rw (ne_eqb (length xs) n (λ e. omega arith))

pub arrived-whole : (n : ℕ) (xs : List ℕ) → length xs ≡ n → arrived n xs ≡ whole xs
unfolding arrived
arrived-whole n xs h = rw (eq-eqb (length xs) n h)

-- one octet of contents
more-contents : (n : ℕ) (xs os : List ℕ) (o : ℕ) → length xs < n → run (o ∷ os) (arrived n xs) ≡ moved 1 (run os (arrived n (xs ++ (o ∷ []))))
unfolding step
more-contents n xs os o h = rw (arrived-part n xs h) (run_inside (filling n xs) o os)

-- octets that do not fill a message are all taken
pub fills-part : (n : ℕ) (xs os : List ℕ) → length xs + length os < n → run os (arrived n xs) ≡ (length os, inside (filling n (xs ++ os)))
fills-part n xs [] h = rw (arrived-part n xs (omega arith), append-nil) (run_none (inside (filling n xs)))
fills-part n xs (o ∷ os) h =
    let l : length (xs ++ (o ∷ [])) ≡ length xs + 1 = length-append xs (o ∷ []) in
    let r : run os (arrived n (xs ++ (o ∷ []))) ≡ (length os, inside (filling n (xs ++ (o ∷ os)))) =
    rw (append_snoc xs o os) at (fills-part n (xs ++ (o ∷ [])) os (omega arith)) in
    more-contents n xs os o (omega arith) ∙ ap (moved 1) r ∙ ap (λ (k : ℕ). (k, inside (filling n (xs ++ (o ∷ os))))) (add-one (length os))

-- of octets that fill it, as many are taken as it needs
pub fills-whole : (k n : ℕ) (xs os : List ℕ) → length xs + k ≡ n → k ≤ length os → run os (arrived n xs) ≡ (k, whole (xs ++ take k os))
fills-whole zero n xs os e h = rw (arrived-whole n xs (omega arith), append-nil) (run-whole os xs)
fills-whole (suc k) n xs [] e h = absurd (omega arith)
fills-whole (suc k) n xs (o ∷ os) e h =
    let l : length (xs ++ (o ∷ [])) ≡ length xs + 1 = length-append xs (o ∷ []) in
    let r : run os (arrived n (xs ++ (o ∷ []))) ≡ (k, whole (xs ++ (o ∷ take k os))) =
    rw (append_snoc xs o (take k os)) at (fills-whole k n (xs ++ (o ∷ [])) os (omega arith) (omega arith)) in
    more-contents n xs os o (omega arith) ∙ ap (moved 1) r ∙ ap (λ (j : ℕ). (j, whole (xs ++ (o ∷ take k os)))) (add-one k)
