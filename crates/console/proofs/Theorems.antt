-- The statements of `specs/Theorems.antt`, proved. Assumes nothing.
use mathlib.Core.Path.{◌≡◌, refl, sym, ap, ◌∙◌}
use mathlib.Core.Bool.{Bool, true, false, cond}
use mathlib.Core.List.{List, [], ◌∷◌, ◌++◌, map, flatten, append-nil}
use Prim.Native.Nat.{ℕ, zero, suc, ◌+◌, ◌*◌, ◌≤◌, ◌<◌}
use native.Mathlib.Omega.{arith}
use lib.Dec.{ltb}
use lib.ListN.{length, take, get_or}
use lib.Seq.{drop_at}
use borrow.Author.Tests.{ltb-true, ltb-false, ne_eqb, lt-ltb}
use Rattle.octets.specs.Numbers.{be_octets}
use Rattle.octets.specs.Parts.{zeros}
use Rattle.octets.proofs.PartLaws.{zeros-append, length-zeros}
use Rattle.message.specs.Answer.{most_octets}
use Rattle.console.specs.Frames.{mark, frame, fresh, Step, inside, whole, wrong, sized, step, run, header_wrong, length_over}
use Rattle.console.specs.State.{Saved, going, ended, saved, resumed, image, saved_of, sound, is_left, state_size}
use Rattle.console.specs.Calls.{ConsoleOutcome, refused, told, taking}
use Rattle.console.specs.Positions.{front}
use Rattle.console.specs.Streams.{Heard, noted, Session, over, call, hears, AllOctets}
use Rattle.console.specs.Theorems.{CuttingLaw, HostsLaw, ChunksLaw, SessionsEnd, StaysLeft, StreamLeaves, LeftExactly, ShortRoom, BadState, KeepsRoom, Repeats, FirstWrongOctet, FifthOctet, FreshIsZero, FramedLaw, BatchHeard}
use Rattle.console.proofs.RunLaws.{run-wrong}
use Rattle.console.proofs.HeaderLaws.{headed}
use Rattle.console.proofs.StateLaws.{state-parts}
use Rattle.console.proofs.LeftLaws.{left-sound, left-image}
use Rattle.console.proofs.SoundLaws.{left-of-image, saved_of-image}
use Rattle.console.proofs.CallLaws.{take_short, take-unfit, take_on}
use Rattle.console.proofs.StreamLaws.{octets-left, taking-image, after_call, sound-after, again-octets, session-hears, offers-hears}
use Rattle.console.proofs.EndLaws.{ends}
use Rattle.console.proofs.ReachLaws.{Reached, reached}
use Rattle.console.proofs.FramedLaws.{frame-run, length-frame, after-message}
use Rattle.console.proofs.BatchLaws as batches

pub chunks : ChunksLaw
chunks b cs h e o p = session-hears p (saved_of b) (sym (left-image b e)) (left-sound b e) o

pub cutting : CuttingLaw
cutting b cs ds h k e o q p r =
    chunks b cs h e o p ∙ ap (λ (u : List ℕ). hears u (saved_of b)) q ∙ sym (chunks b ds k e (rw q at o) r)

pub hosts : HostsLaw
hosts b xs h k e o p q =
    offers-hears p (saved_of b) (sym (left-image b e)) (left-sound b e) o ∙ sym (offers-hears q (saved_of b) (sym (left-image b e)) (left-sound b e) o)

stays_on : (s : Saved) (chunk room : List ℕ) → sound s ≡ true → AllOctets chunk → most_octets ≤ length room → is_left (taking (image s) chunk room).state ≡ true
stays_on s chunk room e o r = rw (after_call s chunk room e r) (left-of-image (saved (run chunk (resumed s)).1) (sound-after s chunk e o))

pub stays : StaysLeft
stays b chunk room e o = go (ltb (length room) most_octets) refl
  where
    go : (t : Bool) → ltb (length room) most_octets ≡ t → is_left (taking b chunk room).state ≡ true
    go true q = rw (← take_short b chunk room (ltb-true (length room) most_octets q)) e
    go false q =
        ap (λ (u : List ℕ). is_left (taking u chunk room).state) (sym (left-image b e))
        ∙ stays_on (saved_of b) chunk room (left-sound b e) o (ltb-false (length room) most_octets q)

pub sessions : SessionsEnd
sessions b cs room e o r =
    let p : (h : Heard) × Session (image (saved_of b)) cs h = ends (length (flatten cs) + length cs) (saved_of b) cs room (left-sound b e) o r (omega arith) in
    (p.0, rw (left-image b e) at p.1)

-- the fresh state
front-fresh : front 0 0 0 ≡ zeros 5
unfolding be_octets zeros
front-fresh = refl

fresh-image : (n : ℕ) → front 0 0 0 ++ zeros n ≡ zeros (5 + n)
fresh-image n = ap (λ (u : List ℕ). u ++ zeros n) front-fresh ∙ zeros-append 5 n

fresh-zeros : image (going fresh) ≡ zeros state_size
unfolding image
fresh-zeros = sym (state-parts 0 0 0 []) ∙ fresh-image most_octets

pub fresh-is : FreshIsZero
unfolding sound
fresh-is = (fresh-zeros, ap is_left (sym fresh-zeros) ∙ left-of-image (going fresh) refl)

-- what remains of a session is a state that a stream leaves
session-left : {b : List ℕ} {cs : List (List ℕ)} {h : Heard} → Session b cs h → is_left b ≡ true → AllOctets (flatten cs) → is_left h.remains ≡ true
unfolding flatten
session-left (over e) l o = ap (λ (u : Heard). is_left u.remains) e ∙ l
session-left (call {b} {c} {cs} room r next e) l o =
    ap (λ (u : Heard). is_left u.remains) e
    ∙ session-left next (stays b c room l (octets-left c (flatten cs) o)) (again-octets c cs (taking b c room) o)

saved-fresh : saved_of (zeros state_size) ≡ going fresh
unfolding sound
saved-fresh = ap saved_of (sym fresh-zeros) ∙ saved_of-image (going fresh) refl

leaves : (b : List ℕ) → AllOctets b → is_left b ≡ true → StreamLeaves b
unfolding flatten
leaves b o e =
    let r : Reached (saved_of b) = reached (saved_of b) (left-sound b e) (rw (← left-image b e) at o) in
    let cs : List (List ℕ) = r.0 ∷ [] in
    let a : flatten cs ≡ r.0 = append-nil r.0 in
    let oc : AllOctets (flatten cs) = rw a r.1 in
    let s : (h : Heard) × Session (zeros state_size) cs h = sessions (zeros state_size) cs (zeros most_octets) fresh-is.1 oc (omega (arith, length-zeros most_octets)) in
    let k : s.0 ≡ hears (flatten cs) (saved_of (zeros state_size)) = chunks (zeros state_size) cs s.0 fresh-is.1 oc s.1 in (
      cs,
      s.0,
      oc,
      s.1,
      ap (λ (u : Heard). u.remains) k
          ∙ ap (λ (u : Saved). (hears (flatten cs) u).remains) saved-fresh
          ∙ ap (λ (u : List ℕ). (hears u (going fresh)).remains) a
          ∙ r.2
          ∙ left-image b e,
    )

pub exactly : LeftExactly
exactly b o = (leaves b o, λ (s : StreamLeaves b). ap is_left (sym s.4) ∙ session-left s.3 fresh-is.1 s.2)

pub short : ShortRoom
short b chunk room h = sym (take_short b chunk room h)

pub bad : BadState
bad b chunk room r h = sym (take-unfit b chunk room r h)

told-refuses : (room : List ℕ) (t : ℕ) (s : Step) → ((told room (t, s)).number ≡ 0 → ⊥)
    → ((told room (t, s)).room ≡ room) × ((told room (t, s)).complete ≡ 0) × ((told room (t, s)).count ≡ 0)
unfolding told
told-refuses room t (inside f) h = absurd (h refl)
told-refuses room t (whole m) h = absurd (h refl)
told-refuses room t (wrong n) h = (refl, refl, refl)

pub rooms : KeepsRoom
unfolding taking
rooms b chunk room h = go (ltb (length room) most_octets) (is_left b) h
  where
    o : Bool → Bool → ConsoleOutcome
    o t u = cond t (refused 1 room b) (cond u (told room (run chunk (resumed (saved_of b)))) (refused 21 room b))

    go : (t u : Bool) → ((o t u).number ≡ 0 → ⊥) → ((o t u).room ≡ room) × ((o t u).complete ≡ 0) × ((o t u).count ≡ 0)
    go true u k = (refl, refl, refl)
    go false true k = told-refuses room (run chunk (resumed (saved_of b))).0 (run chunk (resumed (saved_of b))).1 k
    go false false k = (refl, refl, refl)

-- the call after one that came to a step: a wrong octet stays
told-repeats : (next room later : List ℕ) (t : ℕ) (s : Step) → most_octets ≤ length later → sound (saved s) ≡ true
    → ((told room (t, s)).number ≡ 0 → ⊥)
    → taking (told room (t, s)).state next later ≡ refused (told room (t, s)).number later (told room (t, s)).state
unfolding told saved resumed
told-repeats next room later t (inside f) r g h = absurd (h refl)
told-repeats next room later t (whole m) r g h = absurd (h refl)
told-repeats next room later t (wrong n) r g h = taking-image (ended n) next later g r ∙ ap (told later) (run-wrong next n)

pub repeats : Repeats
repeats b chunk next room later r l o h = go (is_left b) refl
  where
    go : (t : Bool) → is_left b ≡ t → taking (taking b chunk room).state next later ≡ refused (taking b chunk room).number later (taking b chunk room).state
    go true e =
        let s : Saved = saved_of b in
        let t : taking b chunk room ≡ told room (run chunk (resumed s)) = sym (take_on b chunk room r e refl) in
        rw t (told-repeats next room later (run chunk (resumed s)).0 (run chunk (resumed s)).1 l (sound-after s chunk (left-sound b e) o) (rw t at h))
    go false e = rw (← take-unfit b chunk room r e) (sym (take-unfit b next later l e))

-- a call on the fresh state
fresh-call : (chunk room : List ℕ) → most_octets ≤ length room → taking (zeros state_size) chunk room ≡ told room (run chunk (inside fresh))
unfolding resumed sound
fresh-call chunk room r = ap (λ (u : List ℕ). taking u chunk room) (sym fresh-zeros) ∙ taking-image (going fresh) chunk room refl r

run-wrong-octet : (c o : ℕ) (rest : List ℕ) → c < 3 → (o ≡ get_or mark c 0 → ⊥) → run (take c mark ++ (o ∷ rest)) (inside fresh) ≡ (c + 1, wrong header_wrong)
unfolding run step
run-wrong-octet zero o rest h w = rw (ne_eqb o 127 w) (ap (λ (r : ℕ × Step). (r.0 + 1, r.1)) (run-wrong rest header_wrong))
run-wrong-octet (suc zero) o rest h w = rw (ne_eqb o 0 w) (ap (λ (r : ℕ × Step). (r.0 + 1 + 1, r.1)) (run-wrong rest header_wrong))
run-wrong-octet (suc (suc zero)) o rest h w = rw (ne_eqb o 2 w) (ap (λ (r : ℕ × Step). (r.0 + 1 + 1 + 1, r.1)) (run-wrong rest header_wrong))
run-wrong-octet (suc (suc (suc c))) o rest h w = absurd (omega arith)

pub first-wrong : FirstWrongOctet
first-wrong c o rest room h w r = fresh-call (take c mark ++ (o ∷ rest)) room r ∙ ap (told room) (run-wrong-octet c o rest h w)

sized-over : (n : ℕ) → most_octets < n → sized n ≡ wrong length_over
unfolding sized
sized-over n h = rw (lt-ltb most_octets n h)

pub fifth : FifthOctet
fifth high low rest room h r =
    let e : run rest (sized (high * 256 + low)) ≡ (0, wrong length_over) = ap (run rest) (sized-over (high * 256 + low) h) ∙ run-wrong rest length_over in
    fresh-call (mark ++ (high ∷ low ∷ rest)) room r
    ∙ ap (told room) (headed high low rest ∙ ap (λ (u : ℕ × Step). (u.0 + 1 + 1 + 1 + 1 + 1, u.1)) e)

pub framed : FramedLaw
unfolding flatten hears noted
framed [] h = refl
framed (m ∷ ms) h =
    let rest : List ℕ = flatten (map frame ms) in
    after-message (frame m ++ rest) (frame-run m rest (h 0))
    ∙ ap (λ (u : List ℕ). noted (whole m) (hears u (going fresh))) (drop_at (frame m) rest (length m + 5) (length-frame m))
    ∙ ap (noted (whole m)) (framed ms (λ i. h (suc i)))

pub batch : BatchHeard
batch = batches.batch-heard
