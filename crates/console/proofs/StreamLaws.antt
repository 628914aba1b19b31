-- Calls one after the other, and the octets that they take: what is heard in chunks is what is heard of their octets. Assumes nothing.
use mathlib.Core.Path.{◌≡◌, refl, sym, ap, ap₂, ◌∙◌}
use mathlib.Core.Bool.{Bool, true, false, cond, ◌&&◌}
use mathlib.Core.Logic.{⊎_elim}
use mathlib.Core.List.{List, [], ◌∷◌, ◌++◌, flatten}
use Prim.Native.Nat.{ℕ, ◌+◌, ◌≤◌, ◌<◌}
use native.Mathlib.Numerals.{add-one}
use native.Mathlib.Omega.{arith}
use lib.Dec.{eqb, ltb}
use lib.ListN.{length, take, drop, get_or, drop_of_length-le, take-append-drop, get_or-append, get_or-eq_default}
use lib.Seq.{take_at, get_or-append-add, drop-append-le}
use borrow.Author.Tests.{ltb-true, ltb-false, ne_eqb}
use Rattle.octets.specs.Parts.{patch}
use Rattle.octets.proofs.OctetLaws.{octets-drop, octets-append}
use Rattle.message.specs.Answer.{most_octets}
use Rattle.console.specs.Frames.{Frame, fresh, Step, inside, whole, wrong, step, run}
use Rattle.console.specs.State.{Saved, going, ended, saved, resumed, image, sound}
use Rattle.console.specs.Calls.{ConsoleOutcome, told, taking}
use Rattle.console.specs.Streams.{Heard, silent, handed, counted, adding, again, Session, over, call, Offers, done, offer, untaken, noted, hears, AllOctets}
use Rattle.console.proofs.RunLaws.{run-wrong}
use Rattle.console.proofs.StateLaws.{patch-first}
use Rattle.console.proofs.SoundLaws.{Good, good-run, saved-resumed, sound-ended, saved_of-image, left-of-image}
use Rattle.console.proofs.CallLaws.{take_on}

pub octets-left : (c r : List ℕ) → AllOctets (c ++ r) → AllOctets c
octets-left c r h i = go (ltb i (length c)) refl
  where
    go : (t : Bool) → ltb i (length c) ≡ t → get_or c i 0 < 256
    go true e = rw (get_or-append c r 0 i (ltb-true i (length c) e)) at (h i)
    go false e = rw (get_or-eq_default c 0 {n = i} (ltb-false i (length c) e)) (omega arith)

pub octets-right : (c r : List ℕ) → AllOctets (c ++ r) → AllOctets r
octets-right c r h i = rw (get_or-append-add c r i 0) at (h (length c + i))

-- an ended stream hears nothing more
pub hears-ended : (xs : List ℕ) (n : ℕ) → hears xs (ended n) ≡ silent (image (ended n))
unfolding hears
hears-ended [] n = refl
hears-ended (x ∷ xs) n = refl

-- what one run takes, and what is heard after it
hears-from : (c rest : List ℕ) (s : Step)
    → noted s (hears (c ++ rest) (saved s)) ≡ noted (run c s).1 (hears (drop (run c s).0 c ++ rest) (saved (run c s).1))
unfolding run hears noted saved
hears-from [] rest s = refl
hears-from (o ∷ os) rest (inside f) = hears-from os rest (step f o) ∙ rw (add-one (run os (step f o)).0)
hears-from (o ∷ os) rest (whole m) = refl
hears-from (o ∷ os) rest (wrong n) = refl

pub hears-call : (c rest : List ℕ) (f : Frame)
    → hears (c ++ rest) (going f) ≡ noted (run c (inside f)).1 (hears (drop (run c (inside f)).0 c ++ rest) (saved (run c (inside f)).1))
unfolding noted saved
hears-call c rest f = hears-from c rest (inside f)

-- a wrong octet was taken
wrong-taken : (c : List ℕ) (f : Frame) (n : ℕ) → (run c (inside f)).1 ≡ wrong n → 0 < (run c (inside f)).0
unfolding run
wrong-taken [] f n e =
    let z : ◌≡◌ {A = ℕ} 0 1 = cc in
    omega arith
wrong-taken (o ∷ os) f n e = omega arith

-- the state that a call leaves
pub told-state : (room : List ℕ) (t : ℕ) (s : Step) → (told room (t, s)).state ≡ image (saved s)
unfolding told
told-state room t (inside f) = refl
told-state room t (whole m) = refl
told-state room t (wrong n) = refl

-- a call on an image
pub taking-image : (s : Saved) (c room : List ℕ) → sound s ≡ true → most_octets ≤ length room → taking (image s) c room ≡ told room (run c (resumed s))
taking-image s c room e h = sym (take_on (image s) c room h (left-of-image s e) (saved_of-image s e))

pub told-taken : (room : List ℕ) (t : ℕ) (s : Step) → (told room (t, s)).taken ≡ t
unfolding told
told-taken room t (inside f) = refl
told-taken room t (whole m) = refl
told-taken room t (wrong n) = refl

pub refuses : (n : ℕ) → sound (ended n) ≡ true → n ≡ 0 → ⊥
refuses n e z = ⊎_elim (λ (h : n ≡ 21). omega arith) (λ (h : n ≡ 22). omega arith) (sound-ended n e)

-- one call's part of what is heard: the octets u that are still to come are v, or the stream has ended
told-adds : (room u v : List ℕ) (t : ℕ) (s : Step) (h : Heard) → Good s → ((n : ℕ) → s ≡ wrong n → 0 < t)
    → ((told room (t, s)).number ≡ 0 → u ≡ v)
    → h ≡ hears u (saved s)
    → adding (told room (t, s)) h ≡ noted s (hears v (saved s))
unfolding told noted saved handed counted
told-adds room u v t (inside f) h g w q e = e ∙ ap (λ (x : List ℕ). hears x (going f)) (q refl)
told-adds room u v t (whole m) h g w q e =
    let k : h ≡ hears v (going fresh) = e ∙ ap (λ (x : List ℕ). hears x (going fresh)) (q refl) in
    let i : take (length m) (patch room 0 m) ≡ m = ap (take (length m)) (patch-first room m (length m) refl) ∙ take_at m (drop (length m) room) (length m) refl in
    ap₂ (λ (x : List ℕ) (y : Heard). record { messages = x ∷ y.messages; refusals = y.refusals; remains = y.remains }) i k
told-adds room u v t (wrong n) h g w q e =
    let k : h ≡ hears v (ended n) = e ∙ hears-ended u n ∙ sym (hears-ended v n) in
    rw (ne_eqb n 0 (refuses n g), ne_eqb t 0 (λ z. omega (arith, w n refl)))
    (ap (λ (y : Heard). record { messages = y.messages; refusals = n ∷ y.refusals; remains = y.remains }) k)

-- where the stream is after a call
pub after_call : (s : Saved) (c room : List ℕ) → sound s ≡ true → most_octets ≤ length room
    → (taking (image s) c room).state ≡ image (saved (run c (resumed s)).1)
after_call s c room e r = ap (λ (u : ConsoleOutcome). u.state) (taking-image s c room e r) ∙ told-state room (run c (resumed s)).0 (run c (resumed s)).1

pub taken-by : (s : Saved) (c room : List ℕ) → sound s ≡ true → most_octets ≤ length room → (taking (image s) c room).taken ≡ (run c (resumed s)).0
taken-by s c room e r = ap (λ (u : ConsoleOutcome). u.taken) (taking-image s c room e r) ∙ told-taken room (run c (resumed s)).0 (run c (resumed s)).1

pub sound-after : (s : Saved) (c : List ℕ) → sound s ≡ true → AllOctets c → sound (saved (run c (resumed s)).1) ≡ true
sound-after s c e o = good-run c (resumed s) (ap sound (saved-resumed s) ∙ e) o

-- a call with the chunk c, rest behind it, and u still to come afterwards
call-hears : (s : Saved) (c rest u room : List ℕ) (h : Heard) → most_octets ≤ length room → sound s ≡ true → AllOctets c
    → ((taking (image s) c room).number ≡ 0 → u ≡ drop (taking (image s) c room).taken c ++ rest)
    → h ≡ hears u (saved (run c (resumed s)).1)
    → adding (taking (image s) c room) h ≡ hears (c ++ rest) s
unfolding resumed saved told handed counted
call-hears (going f) c rest u room h r e o w q =
    let t : taking (image (going f)) c room ≡ told room (run c (inside f)) = taking-image (going f) c room e r in
    let k : (taking (image (going f)) c room).taken ≡ (run c (inside f)).0 = taken-by (going f) c room e r in
    ap (λ (x : ConsoleOutcome). adding x h) t
    ∙ told-adds room u (drop (run c (inside f)).0 c ++ rest) (run c (inside f)).0 (run c (inside f)).1 h (good-run c (inside f) e o) (λ n z. wrong-taken c f n z)
    (λ z. w (ap (λ (x : ConsoleOutcome). x.number) t ∙ z) ∙ ap (λ (i : ℕ). drop i c ++ rest) k) q
    ∙ sym (hears-call c rest f)
call-hears (ended n) c rest u room h r e o w q =
    let t : taking (image (ended n)) c room ≡ told room (0, wrong n) = taking-image (ended n) c room e r ∙ ap (told room) (run-wrong c n) in
    let k : h ≡ hears u (ended n) = q ∙ ap (λ (x : ℕ × Step). hears u (saved x.1)) (run-wrong c n) in
    ap (λ (x : ConsoleOutcome). adding x h) t ∙ rw (ne_eqb n 0 (refuses n e)) (k ∙ hears-ended u n ∙ sym (hears-ended (c ++ rest) n))

-- the chunks still to come have the octets that were not taken
again-flat : (c : List ℕ) (cs : List (List ℕ)) (o : ConsoleOutcome) → o.number ≡ 0 → flatten (again o c cs) ≡ drop o.taken c ++ flatten cs
unfolding again flatten
again-flat c cs o e = rw e (go (ltb o.taken (length c)) refl)
  where
    go : (u : Bool) → ltb o.taken (length c) ≡ u → flatten (cond u (drop o.taken c ∷ cs) cs) ≡ drop o.taken c ++ flatten cs
    go true e = refl
    go false e = rw (drop_of_length-le c {i = o.taken} (ltb-false o.taken (length c) e))

pub again-octets : (c : List ℕ) (cs : List (List ℕ)) (o : ConsoleOutcome) → AllOctets (flatten (c ∷ cs)) → AllOctets (flatten (again o c cs))
unfolding again flatten
again-octets c cs o h = go (eqb o.number 0 && ltb o.taken (length c))
  where
    go : (u : Bool) → AllOctets (flatten (cond u (drop o.taken c ∷ cs) cs))
    go true = octets-append (drop o.taken c) (flatten cs) (octets-drop o.taken c (octets-left c (flatten cs) h)) (octets-right c (flatten cs) h)
    go false = octets-right c (flatten cs) h

-- what a host hears in chunks
pub session-hears : {b : List ℕ} {cs : List (List ℕ)} {h : Heard} → Session b cs h → (s : Saved) → b ≡ image s → sound s ≡ true → AllOctets (flatten cs) → h ≡ hears (flatten cs) s
unfolding flatten hears
session-hears (over e) s eb es o = rw eb at e
session-hears (call {b} {c} {cs} {h} {k} room r next e) s eb es o =
    let oc : AllOctets c = octets-left c (flatten cs) o in
    let n : (taking b c room).state ≡ image (saved (run c (resumed s)).1) = ap (λ (u : List ℕ). (taking u c room).state) eb ∙ after_call s c room es r in
    let q : h ≡ hears (flatten (again (taking b c room) c cs)) (saved (run c (resumed s)).1) =
    session-hears next (saved (run c (resumed s)).1) n (sound-after s c es oc) (again-octets c cs (taking b c room) o) in
    e ∙ ap (λ (u : List ℕ). adding (taking u c room) h) eb
    ∙ call-hears s c (flatten cs) (flatten (again (taking (image s) c room) c cs)) room h r es oc (again-flat c cs (taking (image s) c room)) (rw eb at q)

-- what any host hears: the octets left are those that were not taken
run-within : (c : List ℕ) (s : Step) → (run c s).0 ≤ length c
unfolding run
run-within [] s = omega arith
run-within (o ∷ os) (inside f) = omega (arith, run-within os (step f o))
run-within (o ∷ os) (whole m) = omega arith
run-within (o ∷ os) (wrong n) = omega arith

left_over : (n : ℕ) (xs : List ℕ) (o : ConsoleOutcome) → o.taken ≤ length (take n xs) → o.number ≡ 0 → untaken o n xs ≡ drop o.taken (take n xs) ++ drop n xs
unfolding untaken
left_over n xs o h e = rw e (ap (drop o.taken) (sym (take-append-drop n xs)) ∙ drop-append-le o.taken (take n xs) (drop n xs) h)

untaken-octets : (n : ℕ) (xs : List ℕ) (o : ConsoleOutcome) → AllOctets xs → AllOctets (untaken o n xs)
unfolding untaken
untaken-octets n xs o h = octets-drop (cond (eqb o.number 0) o.taken n) xs h

pub offers-hears : {b xs : List ℕ} {h : Heard} → Offers b xs h → (s : Saved) → b ≡ image s → sound s ≡ true → AllOctets xs → h ≡ hears xs s
unfolding hears
offers-hears (done e) s eb es o = rw eb at e
offers-hears (offer {b} {xs} {h} {k} n room r next e) s eb es o =
    let c : List ℕ = take n xs in
    let oc : AllOctets c = octets-left c (drop n xs) (rw (← take-append-drop n xs) at o) in
    let a : (taking b c room).state ≡ image (saved (run c (resumed s)).1) = ap (λ (u : List ℕ). (taking u c room).state) eb ∙ after_call s c room es r in
    let q : h ≡ hears (untaken (taking b c room) n xs) (saved (run c (resumed s)).1) =
    offers-hears next (saved (run c (resumed s)).1) a (sound-after s c es oc) (untaken-octets n xs (taking b c room) o) in
    let w : (taking (image s) c room).taken ≤ length c = rw (taken-by s c room es r) (run-within c (resumed s)) in
    e ∙ ap (λ (u : List ℕ). adding (taking u c room) h) eb
    ∙ call-hears s c (drop n xs) (untaken (taking (image s) c room) n xs) room h r es oc (left_over n xs (taking (image s) c room) w) (rw eb at q)
    ∙ ap (λ (u : List ℕ). hears u s) (take-append-drop n xs)
