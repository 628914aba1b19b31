-- The messages of a batch's frames are octets, and none is too long; and the batch is these messages in frames. Assumes nothing.
use Prim.Native.Nat.{ℕ, zero, suc, ◌+◌, ◌*◌, ◌/◌, ◌%◌, ◌≤◌, ◌<◌}
use native.Mathlib.Omega.{arith}
use native.Mathlib.Numerals.{add-one}
use mathlib.Core.Path.{◌≡◌, refl, sym, ap, subst, ◌∙◌}
use mathlib.Core.Bool.{Bool, true, false, cond}
use mathlib.Core.List.{List, [], ◌∷◌, ◌++◌, append_assoc, append-nil}
use lib.Dec.{eqb, ltb}
use lib.ListN.{length, take, drop, get_or, length-append, take-append-drop}
use lib.Seq.{drop_at}
use borrow.Author.Tests.{eqb-true, eqb-false, ltb-true, ltb-false, lt-ltb}
use Rattle.octets.specs.Numbers.{be_octets}
use Rattle.octets.proofs.OctetLaws.{octets-drop, octets-append, octets-none, octets-one}
use Rattle.octets.specs.Ascending.{All as Every}
use Rattle.message.specs.Answer.{most_octets}
use Rattle.message.proofs.FormLaws.{cond_cases}
use Rattle.console.specs.Frames.{mark, frame, Frame, heading, filling, fresh, Step, inside, whole, wrong, arrived, sized, step, run}
use Rattle.console.specs.Batch.{most_frames, led, frames_of}
use Rattle.console.specs.Streams.{AllOctets}
use Rattle.console.proofs.FramedLaws.{frame-run, length-frame}
use Rattle.batch.specs.Theorems.{framed, FramesExactly}

-- a message that a frame can hold
abbrev pub Framed : List ℕ → Type 0
Framed m = (length m ≤ most_octets) × AllOctets m

abbrev Fine : Step → Type 0
Fine (inside (heading c z)) = Unit {0}
Fine (inside (filling n xs)) = (n ≤ most_octets) × (length xs < n) × AllOctets xs
Fine (whole m) = Framed m
Fine (wrong n) = n ≡ 0 → ⊥

fine-arrived : (n : ℕ) (xs : List ℕ) → n ≤ most_octets → length xs ≤ n → AllOctets xs → Fine (arrived n xs)
unfolding arrived
fine-arrived n xs h k o =
    cond_cases Fine (eqb (length xs) n) (λ e. (omega (arith, eqb-true (length xs) n e), o)) (λ e. (h, omega (arith, eqb-false (length xs) n e), o))

fine-sized : (n : ℕ) → Fine (sized n)
unfolding sized
fine-sized n = cond_cases Fine (ltb most_octets n) (λ e z. omega (arith, z)) (λ e. fine-arrived n [] (ltb-false most_octets n e) (omega arith) octets-none)

fine-step : (f : Frame) (o : ℕ) → Fine (inside f) → o < 256 → Fine (step f o)
unfolding step
fine-step (heading c z) o h k =
    cond_cases Fine (ltb c 3) (λ e. cond_cases Fine (eqb o (get_or mark c 0)) (λ e. tt) (λ e z. omega (arith, z))) (λ e. cond_cases Fine (eqb c 3) (λ e. tt) (λ e. fine-sized (z + o)))
fine-step (filling n xs) o h k =
    fine-arrived n (xs ++ (o ∷ [])) h.0 (omega (arith, length-append xs (o ∷ []), h.1)) (octets-append xs (o ∷ []) h.2 (octets-one o k))

fine-run : (xs : List ℕ) (s : Step) → AllOctets xs → Fine s → Fine (run xs s).1
unfolding run
fine-run [] s o h = h
fine-run (x ∷ xs) (inside f) o h = fine-run xs (step f x) (λ i. o (suc i)) (fine-step f x h (o 0))
fine-run (x ∷ xs) (whole m) o h = h
fine-run (x ∷ xs) (wrong n) o h = h

fine-led : (s : Step) (r : List (List ℕ) × ℕ) → Fine s → Every Framed r.0 → Every Framed (led s r).0
unfolding led
fine-led (inside f) r h k = tt
fine-led (whole m) r h k = (h, k)
fine-led (wrong n) r h k = tt

-- every message of a batch
pub frames-framed : (n : ℕ) (xs : List ℕ) → AllOctets xs → Every Framed (frames_of n xs).0
unfolding frames_of
frames-framed zero xs o = tt
frames-framed (suc n) xs o =
    let later : Every Framed (frames_of n (drop (run xs (inside fresh)).0 xs)).0 = frames-framed n (drop (run xs (inside fresh)).0 xs) (octets-drop (run xs (inside fresh)).0 xs o) in
    cond_cases (λ (r : List (List ℕ) × ℕ). Every Framed r.0) (ltb 0 (length xs))
    (λ e. fine-led (run xs (inside fresh)).1 (frames_of n (drop (run xs (inside fresh)).0 xs)) (fine-run xs (inside fresh) o tt) later) (λ e. tt)

-- what has been taken of a frame spells it
abbrev Spelled : Step → List ℕ → Type 0
Spelled (inside (heading c z)) ys = (c ≤ 4) × (ys ≡ take c (mark ++ (z / 256 ∷ []))) × (z ≡ z / 256 * 256) × (z / 256 < 256)
Spelled (inside (filling n zs)) ys = ys ≡ mark ++ (be_octets 2 n ++ zs)
Spelled (whole m) ys = ys ≡ frame m
Spelled (wrong n) ys = Unit {0}

spelled-arrived : (n : ℕ) (zs ys : List ℕ) → ys ≡ mark ++ (be_octets 2 n ++ zs) → Spelled (arrived n zs) ys
unfolding arrived frame
spelled-arrived n zs ys e =
    cond_cases (λ s. Spelled s ys) (eqb (length zs) n) (λ q. e ∙ ap (λ (k : ℕ). mark ++ (be_octets 2 k ++ zs)) (sym (eqb-true (length zs) n q))) (λ q. e)

spelled-sized : (hi o : ℕ) (ys : List ℕ) → hi < 256 → o < 256 → ys ≡ mark ++ (hi ∷ o ∷ []) → Spelled (sized (hi * 256 + o)) ys
unfolding sized be_octets
spelled-sized hi o ys h k e =
    let p : hi ≡ (hi * 256 + o) / 256 % 256 = omega arith in
    let q : o ≡ (hi * 256 + o) % 256 = omega arith in
    cond_cases (λ s. Spelled s ys) (ltb most_octets (hi * 256 + o)) (λ z. tt)
    (λ z. spelled-arrived (hi * 256 + o) [] ys (e ∙ (λ i. mark ++ (p i ∷ q i ∷ []))))

-- an octet of the mark
marked : (c o : ℕ) (x : ℕ) (ys : List ℕ) → c < 3 → o ≡ get_or mark c 0 → ys ≡ take c (mark ++ (x ∷ [])) → ys ++ (o ∷ []) ≡ take (c + 1) (mark ++ (0 ∷ []))
marked zero o x ys h e p = λ i. p i ++ (e i ∷ [])
marked (suc zero) o x ys h e p = λ i. p i ++ (e i ∷ [])
marked (suc (suc zero)) o x ys h e p = λ i. p i ++ (e i ∷ [])
marked (suc (suc (suc c))) o x ys h e p = absurd (omega arith)

spelled_step : (f : Frame) (o : ℕ) (ys : List ℕ) → o < 256 → Spelled (inside f) ys → Spelled (step f o) (ys ++ (o ∷ []))
unfolding step
spelled_step (heading c z) o ys k w =
    cond_cases (λ s. Spelled s (ys ++ (o ∷ []))) (ltb c 3)
    (λ e. cond_cases (λ s. Spelled s (ys ++ (o ∷ []))) (eqb o (get_or mark c 0))
    (λ q. (omega (arith, ltb-true c 3 e), marked c o (z / 256) ys (ltb-true c 3 e) (eqb-true o (get_or mark c 0) q) w.1, refl, omega arith)) (λ q. tt))
    (λ e. cond_cases (λ s. Spelled s (ys ++ (o ∷ []))) (eqb c 3) (λ q. fourth (eqb-true c 3 q))
    (λ q. fifth (omega (arith, w.0, ltb-false c 3 e, eqb-false c 3 q))))
  where
    fourth : c ≡ 3 → Spelled (inside (heading (c + 1) (o * 256))) (ys ++ (o ∷ []))
    fourth e =
        let p : o ≡ o * 256 / 256 = omega arith in
        let t : ys ≡ take 3 (mark ++ (z / 256 ∷ [])) = w.1 ∙ ap (λ (n : ℕ). take n (mark ++ (z / 256 ∷ []))) e in
        let u : ys ++ (o ∷ []) ≡ mark ++ (o * 256 / 256 ∷ []) = λ i. t i ++ (p i ∷ []) in
        let v : take 4 (mark ++ (o * 256 / 256 ∷ [])) ≡ take (c + 1) (mark ++ (o * 256 / 256 ∷ [])) = ap (λ (n : ℕ). take (n + 1) (mark ++ (o * 256 / 256 ∷ []))) (sym e) in
        (omega (arith, e), u ∙ v, omega arith, omega arith)

    fifth : c ≡ 4 → Spelled (sized (z + o)) (ys ++ (o ∷ []))
    fifth e =
        let t : ys ≡ mark ++ (z / 256 ∷ []) = w.1 ∙ ap (λ (n : ℕ). take n (mark ++ (z / 256 ∷ []))) e in
        subst (λ (n : ℕ). Spelled (sized (n + o)) (ys ++ (o ∷ []))) (sym w.2)
        (spelled-sized (z / 256) o (ys ++ (o ∷ [])) w.3 k (ap (λ (l : List ℕ). l ++ (o ∷ [])) t))
spelled_step (filling n zs) o ys k w =
    spelled-arrived n (zs ++ (o ∷ [])) (ys ++ (o ∷ []))
    (ap (λ (l : List ℕ). l ++ (o ∷ [])) w ∙ append_assoc mark (be_octets 2 n ++ zs) (o ∷ []) ∙ ap (λ (l : List ℕ). mark ++ l) (append_assoc (be_octets 2 n) zs (o ∷ [])))

spelled-run : (xs : List ℕ) (s : Step) (ys : List ℕ) → AllOctets xs → Spelled s ys → Spelled (run xs s).1 (ys ++ take (run xs s).0 xs)
unfolding run
spelled-run [] s ys o w = subst (Spelled s) (sym (append-nil ys)) w
spelled-run (x ∷ xs) (inside f) ys o w =
    let k : ℕ = (run xs (step f x)).0 in
    let e : ys ++ take (k + 1) (x ∷ xs) ≡ (ys ++ (x ∷ [])) ++ take k xs =
    ap (λ (n : ℕ). ys ++ take n (x ∷ xs)) (add-one k) ∙ sym (append_assoc ys (x ∷ []) (take k xs)) in
    subst (Spelled (run xs (step f x)).1) (sym e) (spelled-run xs (step f x) (ys ++ (x ∷ [])) (λ i. o (suc i)) (spelled_step f x ys (o 0) w))
spelled-run (x ∷ xs) (whole m) ys o w = subst (Spelled (whole m)) (sym (append-nil ys)) w
spelled-run (x ∷ xs) (wrong n) ys o w = tt

-- a batch is the messages that are found, in frames
pub record Spells (n : ℕ) (xs : List ℕ) (ms : List (List ℕ)) : Type 0 where
  pub is : xs ≡ framed ms
  pub few : length ms ≤ n
  pub short : Every (λ m. length m ≤ most_octets) ms

nothing : (xs : List ℕ) → length xs ≤ 0 → xs ≡ []
nothing [] h = refl
nothing (x ∷ xs) h = absurd (omega arith)

spells-none : (n : ℕ) (xs : List ℕ) (ms : List (List ℕ)) → length xs ≤ 0 → [] ≡ ms → Spells n xs ms
spells-none n xs [] h e = record { is = nothing xs h; few = omega arith; short = tt }
spells-none n xs (m ∷ ms) h e = let z : ◌≡◌ {A = ℕ} 0 (suc (length ms)) = ap length e in absurd (omega arith)

pub spells : (n : ℕ) (xs : List ℕ) (ms : List (List ℕ)) → AllOctets xs → frames_of n xs ≡ (ms, 0) → Spells n xs ms
unfolding frames_of led
spells zero xs ms o e = go (ltb 0 (length xs)) refl e
  where
    go : (t : Bool) → ltb 0 (length xs) ≡ t → ◌≡◌ {A = List (List ℕ) × ℕ} ([], cond t 23 0) (ms, 0) → Spells 0 xs ms
    go true q f = let z : ◌≡◌ {A = ℕ} 23 0 = ap (λ (u : List (List ℕ) × ℕ). u.1) f in absurd (omega arith)
    go false q f = spells-none 0 xs ms (ltb-false 0 (length xs) q) (ap (λ (u : List (List ℕ) × ℕ). u.0) f)
spells (suc n) xs ms o e =
    let d : List ℕ = drop (run xs (inside fresh)).0 xs in
    go (λ z. spells n d (frames_of n d).0 (octets-drop (run xs (inside fresh)).0 xs o) (ap (λ (k : ℕ). ((frames_of n d).0, k)) z)) (ltb 0 (length xs)) refl e
  where
    t : ℕ
    t = (run xs (inside fresh)).0

    later : List (List ℕ) × ℕ
    later = frames_of n (drop t xs)

    one : (later.1 ≡ 0 → Spells n (drop t xs) later.0) → (s : Step) → Fine s → Spelled s (take t xs) → led s later ≡ (ms, 0) → Spells (suc n) xs ms
    one ih (inside f) w v g = let z : ◌≡◌ {A = ℕ} 21 0 = ap (λ (u : List (List ℕ) × ℕ). u.1) g in absurd (omega arith)
    one ih (wrong k) w v g = absurd (w (ap (λ (u : List (List ℕ) × ℕ). u.1) g))
    one ih (whole m) w v g =
        let r : Spells n (drop t xs) later.0 = ih (ap (λ (u : List (List ℕ) × ℕ). u.1) g) in
        subst (Spells (suc n) xs) (ap (λ (u : List (List ℕ) × ℕ). u.0) g)
        (record {
          is = sym (take-append-drop t xs) ∙ (λ i. v i ++ r.is i);
          few = omega (arith, r.few);
          short = (w.0, r.short);
        })

    go : (later.1 ≡ 0 → Spells n (drop t xs) later.0) → (b : Bool) → ltb 0 (length xs) ≡ b → cond b (led (run xs (inside fresh)).1 later) ([], 0) ≡ (ms, 0) → Spells (suc n) xs ms
    go ih true q f =
        one ih (run xs (inside fresh)).1 (fine-run xs (inside fresh) o tt) (spelled-run xs (inside fresh) [] o (omega arith, refl, refl, omega arith)) f
    go ih false q f = spells-none (suc n) xs ms (ltb-false 0 (length xs) q) (ap (λ (u : List (List ℕ) × ℕ). u.0) f)

found_framed : (n : ℕ) (ms : List (List ℕ)) → length ms ≤ n → Every (λ m. length m ≤ most_octets) ms → frames_of n (framed ms) ≡ (ms, 0)
unfolding frames_of led
found_framed zero [] h s = refl
found_framed (suc n) [] h s = refl
found_framed zero (m ∷ ms) h s = absurd (omega arith)
found_framed (suc n) (m ∷ ms) h s =
    let l : 0 < length (frame m ++ framed ms) = rw length-append (omega (arith, length-frame m)) in
    let d : drop (length m + 5) (frame m ++ framed ms) ≡ framed ms = drop_at (frame m) (framed ms) (length m + 5) (length-frame m) in
    rw (lt-ltb 0 (length (frame m ++ framed ms)) l)
    (ap (λ (u : ℕ × Step). led u.1 (frames_of n (drop u.0 (frame m ++ framed ms)))) (frame-run m (framed ms) s.0)
    ∙ ap (λ (xs : List ℕ). led (whole m) (frames_of n xs)) d ∙ ap (λ (r : List (List ℕ) × ℕ). (m ∷ r.0, r.1)) (found_framed n ms (omega arith) s.1))

pub frames-exactly : FramesExactly
frames-exactly batch ms o = (
  λ e. let s : Spells most_frames batch ms = spells most_frames batch ms o e in record { is = s.is; few = s.few; short = s.short },
  λ w. ap (frames_of most_frames) w.is ∙ found_framed most_frames ms w.few w.short,
)
