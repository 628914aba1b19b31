-- Laws of `specs/State.antt`: a state's parts, and what the code's writes make of them. Assumes nothing.
use mathlib.Core.Path.{◌≡◌, refl, sym, ap, ap₂, ◌∙◌}
use mathlib.Core.List.{List, [], ◌∷◌, ◌++◌, append_assoc, append-nil}
use Prim.Native.Nat.{ℕ, suc, ◌+◌, ◌-◌, ◌≤◌, ◌<◌}
use native.Mathlib.Omega.{arith}
use lib.ListN.{length, take, drop, set, length-append, length-drop, drop_of_length-le}
use lib.Seq.{length-take-le, take-add, take_all, drop_at, drop-drop, set_split}
use Rattle.octets.specs.Numbers.{be_octets}
use Rattle.octets.specs.Parts.{patch, zeros, part}
use Rattle.octets.proofs.PartLaws.{patch-three, patch-patch, length-zeros, zeros-append}
use Rattle.octets.proofs.NumberLaws.{length-be_octets}
use Rattle.message.specs.Answer.{most_octets}
use Rattle.console.specs.Frames.{heading, inside, wrong, arrived, run}
use Rattle.console.specs.State.{saved, image, state, state_size}
use Rattle.console.specs.Calls.{told}
use Rattle.console.specs.Positions.{moved, Tail, front}
use Rattle.console.proofs.RunLaws.{run-wrong, fills-part, fills-whole}

-- a patch at the front, and what stands from a patch on
pub patch-first : (b xs : List ℕ) (k : ℕ) → length xs ≡ k → patch b 0 xs ≡ xs ++ drop k b
unfolding patch
patch-first b xs k e =
    let f : 0 + length xs ≡ k = omega arith in
    ap (λ (j : ℕ). xs ++ drop j b) f

pub drop-patch : (b : List ℕ) (p : ℕ) (xs : List ℕ) → p ≤ length b → drop p (patch b p xs) ≡ xs ++ drop (p + length xs) b
unfolding patch
drop-patch b p xs h = ap (drop p) (append_assoc (take p b) xs (drop (p + length xs) b)) ∙ drop_at (take p b) (xs ++ drop (p + length xs) b) p (length-take-le p b h)

pub length_front : (p c z : ℕ) → length (front p c z) ≡ 5
length_front p c z = ap suc (length-append (be_octets 2 c) (be_octets 2 z) ∙ ap₂ ◌+◌ (length-be_octets 2 c) (length-be_octets 2 z))

-- the three stores of a front
pub front-put : (b : List ℕ) (p c z : ℕ) → 5 ≤ length b → patch (patch (set b 0 p) 1 (be_octets 2 c)) 3 (be_octets 2 z) ≡ front p c z ++ drop 5 b
front-put b p c z h =
    let k : length (be_octets 2 c) ≡ 2 = length-be_octets 2 c in
    let l : length (be_octets 2 z) ≡ 2 = length-be_octets 2 z in
    let e : set b 0 p ≡ patch b 0 (p ∷ []) = set_split b 0 p (omega arith) ∙ sym (patch-first b (p ∷ []) 1 refl) in
    ap (λ (u : List ℕ). patch (patch u 1 (be_octets 2 c)) 3 (be_octets 2 z)) e
    ∙ patch-three b 0 (p ∷ []) (be_octets 2 c) (be_octets 2 z) 1 3 refl (omega arith) (omega arith)
    ∙ patch-first b (front p c z) 5 (length_front p c z)

-- a front and contents with zeros behind them are a state
pub state-parts : (p c z : ℕ) (xs : List ℕ) → front p c z ++ (xs ++ zeros (most_octets - length xs)) ≡ state p c z xs
unfolding state
state-parts p c z xs = ap (λ (u : List ℕ). p ∷ u) (append_assoc (be_octets 2 c) (be_octets 2 z) (xs ++ zeros (most_octets - length xs)))

pub drop-state : (p c z : ℕ) (xs : List ℕ) → drop 5 (state p c z xs) ≡ xs ++ zeros (most_octets - length xs)
drop-state p c z xs = rw (← state-parts p c z xs) (drop_at (front p c z) (xs ++ zeros (most_octets - length xs)) 5 (length_front p c z))

pub length-state : (p c z : ℕ) (xs : List ℕ) → length xs ≤ most_octets → length (state p c z xs) ≡ state_size
length-state p c z xs h =
    rw (← state-parts p c z xs, length-append (front p c z) (xs ++ zeros (most_octets - length xs)), length-append xs (zeros (most_octets - length xs)), length_front p c z, length-zeros (most_octets - length xs))
    (omega arith)

pub bare-put : (b : List ℕ) (p c z : ℕ) → length b ≡ state_size → front p c z ++ drop 5 (patch b 5 (zeros most_octets)) ≡ state p c z []
bare-put b p c z h =
    let l : length (zeros most_octets) ≡ most_octets = length-zeros most_octets in
    let e : drop (5 + length (zeros most_octets)) b ≡ [] = drop_of_length-le b {i = 5 + length (zeros most_octets)} (omega arith) in
    ap (λ (u : List ℕ). front p c z ++ u) (drop-patch b 5 (zeros most_octets) (omega arith) ∙ ap (λ (u : List ℕ). zeros most_octets ++ u) e ∙ append-nil (zeros most_octets))
    ∙ state-parts p c z []

pub drop-zeros : (m n : ℕ) → m ≤ n → drop m (zeros n) ≡ zeros (n - m)
drop-zeros m n h =
    let e : n ≡ m + (n - m) = omega arith in
    ap (λ (k : ℕ). drop m (zeros k)) e ∙ ap (drop m) (sym (zeros-append m (n - m))) ∙ drop_at (zeros m) (zeros (n - m)) m (length-zeros m)

module _ {b : List ℕ} {held : ℕ} (t : Tail b held) where
  pub length-held : length (part b 5 held) ≡ held
  length-held = length-take-le held (drop 5 b) (rw length-drop (omega (arith, t.sized, t.fits)))

  -- octets copied behind the contents that are held
  pub contents-put : (os : List ℕ) → held + length os ≤ most_octets
      → drop 5 (patch b (5 + held) os) ≡ (part b 5 held ++ os) ++ zeros (most_octets - length (part b 5 held ++ os))
  unfolding patch
  contents-put os h =
      let n : length (part b 5 held ++ os) ≡ held + length os = length-append (part b 5 held) os ∙ ap (λ (k : ℕ). k + length os) length-held in
      let m : most_octets - held - length os ≡ most_octets - length (part b 5 held ++ os) = omega arith in
      let e : drop (5 + held + length os) b ≡ zeros (most_octets - length (part b 5 held ++ os)) =
      sym (drop-drop (length os) (5 + held) b) ∙ ap (drop (length os)) t.clear ∙ drop-zeros (length os) (most_octets - held) (omega arith) ∙ ap zeros m in
      let rest : List ℕ = zeros (most_octets - length (part b 5 held ++ os)) in
      ap (λ (u : List ℕ). drop 5 (take (5 + held) b ++ os ++ u)) e
      ∙ ap (λ (u : List ℕ). drop 5 (u ++ os ++ rest)) (take-add 5 held b)
      ∙ ap (λ (u : List ℕ). drop 5 (u ++ rest)) (append_assoc (take 5 b) (part b 5 held) os)
      ∙ ap (drop 5) (append_assoc (take 5 b) (part b 5 held ++ os) rest)
      ∙ drop_at (take 5 b) (part b 5 held ++ os ++ rest) 5 (length-take-le 5 b (omega (arith, t.sized)))

  module _ (chunk room : List ℕ) (at size : ℕ) (w : at ≤ length chunk) (s : size ≤ most_octets) where
    -- a message that the chunk does not fill
    pub part-told : {mid st : List ℕ} → held + (length chunk - at) < size
        → mid ≡ patch b (5 + held) (take (length chunk - at) (drop at chunk))
        → st ≡ front 1 (held + (length chunk - at)) size ++ drop 5 mid
        → record { number = 0; taken = at + (length chunk - at); complete = 0; count = 0; room = room; state = st }
        ≡ told room (moved at (run (drop at chunk) (arrived size (part b 5 held))))
    unfolding told saved image
    part-told {mid} {st} h em es =
        let os : List ℕ = drop at chunk in
        let xs : List ℕ = part b 5 held in
        let l : length os ≡ length chunk - at = length-drop at chunk in
        let k : length xs ≡ held = length-held in
        let n : held + (length chunk - at) ≡ length (xs ++ os) = sym (length-append xs os ∙ omega arith) in
        let i : st ≡ state 1 (length (xs ++ os)) size (xs ++ os) =
        es ∙ ap (λ (u : List ℕ). front 1 (held + (length chunk - at)) size ++ drop 5 u) (em ∙ ap (patch b (5 + held)) (take_all (length chunk - at) os (omega arith)))
        ∙ ap₂ (λ (j : ℕ) (u : List ℕ). front 1 j size ++ u) n (contents-put os (omega arith)) ∙ state-parts 1 (length (xs ++ os)) size (xs ++ os) in
        let q : at + (length chunk - at) ≡ length os + at = omega arith in
        rw (fills-part size xs os (omega arith), i, q)

    -- a message that it fills
    pub whole-told : {r1 r2 st : List ℕ} → held ≤ size → size - held ≤ length chunk - at → most_octets ≤ length room
        → r1 ≡ patch room 0 (take (5 + held - 5) (drop 5 b))
        → r2 ≡ patch r1 held (take (at + (size - held) - at) (drop at chunk))
        → st ≡ state 0 0 0 []
        → record { number = 0; taken = at + (size - held); complete = 1; count = size; room = r2; state = st }
        ≡ told room (moved at (run (drop at chunk) (arrived size (part b 5 held))))
    unfolding told saved image
    whole-told {r1} {r2} {st} h g r e1 e2 e3 =
        let os : List ℕ = drop at chunk in
        let xs : List ℕ = part b 5 held in
        let need : ℕ = size - held in
        let l : length os ≡ length chunk - at = length-drop at chunk in
        let k : length xs ≡ held = length-held in
        let y : length (take need os) ≡ need = length-take-le need os (omega arith) in
        let n : size ≡ length (xs ++ take need os) = sym (length-append xs (take need os) ∙ omega arith) in
        let a : 5 + held - 5 ≡ held = omega arith in
        let d : at + (size - held) - at ≡ size - held = omega arith in
        let i : r2 ≡ patch room 0 (xs ++ take need os) =
        e2 ∙ ap₂ (λ (u : List ℕ) (j : ℕ). patch u held (take j os)) (e1 ∙ ap (λ (j : ℕ). patch room 0 (take j (drop 5 b))) a) d
        ∙ patch-patch room 0 xs (take need os) held (omega arith) (omega arith) in
        let q : at + (size - held) ≡ need + at = omega arith in
        rw (fills-whole need size xs os (omega arith) (omega arith), i, q, e3)
        (ap (λ (j : ℕ). record { number = 0; taken = need + at; complete = 1; count = j; room = patch room 0 (xs ++ take need os); state = state 0 0 0 [] }) n)

-- the ends of a run within a header
pub wrong-told : (room : List ℕ) (n t : ℕ) (os : List ℕ) {st : List ℕ} → st ≡ state n 0 0 []
    → record { number = n; taken = t; complete = 0; count = 0; room = room; state = st } ≡ told room (moved t (run os (wrong n)))
unfolding told saved image
wrong-told room n t os e =
    let q : t ≡ 0 + t = omega arith in
    rw (run-wrong os n, e) (ap (λ (j : ℕ). record { number = n; taken = j; complete = 0; count = 0; room = room; state = state n 0 0 [] }) q)

pub cut-told : (room : List ℕ) (c z t : ℕ) {os st : List ℕ} → os ≡ [] → st ≡ state 0 c z []
    → record { number = 0; taken = t; complete = 0; count = 0; room = room; state = st } ≡ told room (moved t (run os (inside (heading c z))))
unfolding told saved image run
cut-told room c z t g e =
    let q : t ≡ 0 + t = omega arith in
    rw (g, e) (ap (λ (j : ℕ). record { number = 0; taken = j; complete = 0; count = 0; room = room; state = state 0 c z [] }) q)
