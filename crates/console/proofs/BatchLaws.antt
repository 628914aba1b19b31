-- Laws of `specs/Batch.antt`: the frame at a place, and the frames found so far with those that are left. Assumes nothing.
use mathlib.Core.Path.{◌≡◌, refl, sym, ap, subst, ◌∙◌}
use mathlib.Core.Bool.{Bool, true, false}
use mathlib.Core.List.{List, [], ◌∷◌, ◌++◌, map, append_assoc, append-nil, map-append}
use Prim.Native.Nat.{ℕ, zero, suc, ◌+◌, ◌-◌, ◌≤◌, ◌<◌}
use native.Mathlib.Numerals.{add-one}
use native.Mathlib.Omega.{arith}
use lib.Dec.{ltb, eqb}
use lib.ListN.{length, take, drop, set, length-drop, length-set, drop_of_length-le, get_or}
use lib.Seq.{drop-drop, take_all, take-suc-set, get_or-set_same, get_or-set_other}
use borrow.Author.Tests.{eqb-true, eqb-false, ltb-true, ltb-false, lt-ltb, le-ltb}
use Rattle.octets.proofs.OctetLaws.{octets-drop}
use Rattle.console.specs.Frames.{heading, filling, fresh, Step, inside, whole, wrong, arrived, run}
use Rattle.console.specs.Positions.{moved, heading_of, HeadOf}
use Rattle.console.specs.Batch.{Within, no_span, AllWithin, most_frames, frames_many, led, frames_of, octets_at, Means}
use Rattle.console.specs.declared.header.Position.{Position}
use Rattle.console.specs.declared.header.FrameHead.{FrameHead}
use Rattle.console.specs.declared.frames.Span.{Span}
use Rattle.std.specs.Prelude.{Ok, Err}
use Rattle.console.specs.Refusals.{number_of}
use Rattle.console.specs.declared.refusals.StreamRefused.{StreamRefused}
use Rattle.console.specs.declared.refusals.StreamRefused.TheVariants.{HeaderWrong}
use Rattle.console.specs.State.{saved, going, ended, sound, image}
use Rattle.console.specs.Streams.{noted, hears, AllOctets}
use Rattle.console.specs.Theorems.{BatchHeard}
use Rattle.console.proofs.RunLaws.{run_none, run-wrong, fills-part, fills-whole}
use Rattle.console.proofs.HeaderLaws.{meant-sized}
use Rattle.console.proofs.CallLaws.{meant-inside}
use Rattle.console.proofs.SoundLaws.{Good, good-heading, good-run}
use Rattle.console.proofs.StreamLaws.{refuses}
use Rattle.console.proofs.FramedLaws.{after-message}

-- a run that does not end with a message
led-wrong : (n : ℕ) (r : List (List ℕ) × ℕ) {s : Step} → s ≡ wrong n → led s r ≡ ([], n)
unfolding led
led-wrong n r e = rw e

led-cut : (c z : ℕ) (r : List (List ℕ) × ℕ) {s : Step} → s ≡ inside (heading c z) → led s r ≡ ([], 21)
unfolding led
led-cut c z r e = rw e

led-part : (n : ℕ) (xs : List ℕ) (r : List (List ℕ) × ℕ) {s : Step} → s ≡ inside (filling n xs) → led s r ≡ ([], 21)
unfolding led
led-part n xs r e = rw e

led-whole : (m : List ℕ) (r : List (List ℕ) × ℕ) {s : Step} → s ≡ whole m → led s r ≡ (m ∷ r.0, r.1)
unfolding led
led-whole m r e = rw e

-- the frame at a place, by what the header says
abbrev none_yet : Position
none_yet = record { count = 0; size = 0 }

pub head-here : (b : List ℕ) (at : ℕ) {h : FrameHead} → HeadOf (take (length b - at) (drop at b)) none_yet h → HeadOf (drop at b) none_yet h
head-here b at w =
    let l : length (drop at b) ≡ length b - at = length-drop at b in
    let e : take (length b - at) (drop at b) ≡ drop at b = take_all (length b - at) (drop at b) (omega arith) in
    rw e at w

module _ (b : List ℕ) (at t : ℕ) where
  runs : {r s : Step} → run (drop at b) (inside fresh) ≡ moved t (run (drop t (drop at b)) r) → r ≡ s
      → run (drop at b) (inside fresh) ≡ moved t (run (drop t (drop at b)) s)
  runs w e = w ∙ ap (λ (u : Step). moved t (run (drop t (drop at b)) u)) e

  pub frame-wrong : {r : StreamRefused} → HeadOf (drop at b) none_yet (record { taken = t; reached = Err r }) → Means b at (Err r)
  frame-wrong {r} w u =
      led-wrong (number_of r) u
      (ap (λ (v : ℕ × Step). v.1) (w.means ∙ ap (moved t) (run-wrong (drop t (drop at b)) (number_of r))))

  module _ {p : Position} (w : HeadOf (drop at b) none_yet (record { taken = t; reached = Ok p })) where
    pub frame-short : (p.count ≡ 5 → ⊥) → Means b at (Err HeaderWrong)
    frame-short c r =
        led-cut p.count p.size r
        (ap (λ (u : ℕ × Step). u.1)
        (runs w.means (meant-inside p c)
        ∙ ap (λ (u : List ℕ). moved t (run u (inside (heading_of p)))) (w.used c)
        ∙ ap (moved t) (run_none (inside (heading_of p)))))

    module _ (c : p.count ≡ 5) where
      contents-run : run (drop at b) (inside fresh) ≡ moved t (run (drop (at + t) b) (arrived p.size []))
      contents-run =
          runs w.means (meant-sized p c)
          ∙ ap (λ (u : List ℕ). moved t (run u (arrived p.size []))) (drop-drop t at b)

      pub frame-cut : length b - (at + t) < p.size → Means b at (Err HeaderWrong)
      frame-cut l r =
          let os : List ℕ = drop (at + t) b in
          let m : length os ≡ length b - (at + t) = length-drop (at + t) b in
          led-part p.size os r (ap (λ (u : ℕ × Step). u.1) (contents-run ∙ ap (moved t) (fills-part p.size [] os (omega arith))))

      pub frame-whole : at ≤ length b → p.size ≤ length b - (at + t) → Means b at (Ok (record { start = at + t; len = p.size }))
      frame-whole k l =
          let os : List ℕ = drop (at + t) b in
          let m : length os ≡ length b - (at + t) = length-drop (at + t) b in
          let a : length (drop at b) ≡ length b - at = length-drop at b in
          let i : t ≤ length (drop at b) = w.within in
          let e : p.size + t ≡ at + t + p.size - at = omega arith in (
            omega arith,
            (omega arith, w.fits c),
            contents-run ∙ ap (moved t) (fills-whole p.size p.size [] os (omega arith) (omega arith))
                ∙ ap (λ (i : ℕ). (i, whole (take p.size os))) e,
          )

-- messages before those that are left
abbrev pub before : List (List ℕ) → List (List ℕ) × ℕ → List (List ℕ) × ℕ
before ms r = (ms ++ r.0, r.1)

before-one : (ms : List (List ℕ)) (m : List ℕ) (r : List (List ℕ) × ℕ) → before ms (m ∷ r.0, r.1) ≡ before (ms ++ (m ∷ [])) r
before-one ms m r = ap (λ (u : List (List ℕ)). (u, r.1)) (sym (append_assoc ms (m ∷ []) r.0))

from_end : (n : ℕ) (xs : List ℕ) → xs ≡ [] → frames_of n xs ≡ ([], 0)
unfolding frames_of
from_end zero xs e = rw e
from_end (suc n) xs e = rw e

from-full : (xs : List ℕ) → 0 < length xs → frames_of 0 xs ≡ ([], 23)
unfolding frames_of
from-full xs h = rw (lt-ltb 0 (length xs) h)

from_next : (n : ℕ) (xs : List ℕ) → 0 < length xs → frames_of (suc n) xs ≡ led (run xs (inside fresh)).1 (frames_of n (drop (run xs (inside fresh)).0 xs))
unfolding frames_of
from_next n xs h = rw (lt-ltb 0 (length xs) h)

-- the frames from a place on, by the frame that stands there
pub frames-end : (n : ℕ) (b : List ℕ) (at : ℕ) → length b ≤ at → frames_of n (drop at b) ≡ ([], 0)
frames-end n b at h = from_end n (drop at b) (drop_of_length-le b {i = at} h)

module _ (b : List ℕ) (at : ℕ) (h : at < length b) where
  some_left : 0 < length (drop at b)
  some_left = rw length-drop (omega arith)

  pub frames-full : frames_of 0 (drop at b) ≡ ([], frames_many)
  frames-full = from-full (drop at b) some_left

  pub frames-refused : (n : ℕ) (r : StreamRefused) → Means b at (Err r) → frames_of (suc n) (drop at b) ≡ ([], number_of r)
  frames-refused n r m = from_next n (drop at b) some_left ∙ m (frames_of n (drop (run (drop at b) (inside fresh)).0 (drop at b)))

  pub frames-whole : (n : ℕ) (s : Span) → Means b at (Ok s)
      → frames_of (suc n) (drop at b) ≡ (octets_at b s ∷ (frames_of n (drop (s.start + s.len) b)).0, (frames_of n (drop (s.start + s.len) b)).1)
  frames-whole n s m =
      let j : at + (s.start + s.len - at) ≡ s.start + s.len = omega (arith, m.0) in
      let d : drop (run (drop at b) (inside fresh)).0 (drop at b) ≡ drop (s.start + s.len) b =
      ap (λ (u : ℕ × Step). drop u.0 (drop at b)) m.2 ∙ drop-drop (s.start + s.len - at) at b ∙ ap (λ (i : ℕ). drop i b) j in
      from_next n (drop at b) some_left ∙ ap (λ (u : List ℕ). led (run (drop at b) (inside fresh)).1 (frames_of n u)) d
      ∙ led-whole (octets_at b s) (frames_of n (drop (s.start + s.len) b)) (ap (λ (u : ℕ × Step). u.1) m.2)

-- n frames are found, and the next one starts at `at`
pub record Sofar (b : List ℕ) (spans : List Span) (n at : ℕ) : Type 0 where
  pub few : n ≤ most_frames
  pub within : at ≤ length b
  pub long : length spans ≡ most_frames
  pub placed : AllWithin b spans n
  pub rest : before (map (octets_at b) (take n spans)) (frames_of (most_frames - n) (drop at b)) ≡ frames_of most_frames b

one_more : (b : List ℕ) (spans : List Span) (n : ℕ) (s : Span) → n < length spans → AllWithin b spans n → Within b s → AllWithin b (set spans n s) (n + 1)
one_more b spans n s l p q i k = go (eqb i n) refl
  where
    go : (t : Bool) → eqb i n ≡ t → Within b (get_or (set spans n s) i no_span)
    go true e = rw (eqb-true i n e, get_or-set_same spans n s no_span l) q
    go false e = rw (get_or-set_other spans n i s no_span (eqb-false i n e)) (p i (omega (arith, eqb-false i n e)))

pub sofar-none : (b : List ℕ) (spans : List Span) → length spans ≡ most_frames → Sofar b spans 0 0
sofar-none b spans h = record { few = omega arith; within = omega arith; long = h; placed = λ i k. absurd (omega arith); rest = refl }

-- after 64 of them
pub sofar-most : {b : List ℕ} {spans : List Span} {n at : ℕ} → n ≡ most_frames → Sofar b spans n at → Sofar b spans most_frames at
sofar-most {b} {spans} {n} {at} e w = subst (λ (k : ℕ). Sofar b spans k at) e w

module _ {b : List ℕ} {spans : List Span} {n at : ℕ} (w : Sofar b spans n at) where
  pub sofar-all : length b ≤ at → (map (octets_at b) (take n spans), 0) ≡ frames_of most_frames b
  sofar-all h =
      let e : frames_of (most_frames - n) (drop at b) ≡ ([], 0) = frames-end (most_frames - n) b at h in
      ap (λ (u : List (List ℕ)). (u, 0)) (sym (append-nil (map (octets_at b) (take n spans)))) ∙ (rw e at w.rest)

  module _ (h : at < length b) where
    pub sofar-full : n ≡ most_frames → (map (octets_at b) (take n spans), 23) ≡ frames_of most_frames b
    sofar-full k =
        let z : most_frames - n ≡ 0 = omega arith in
        let e : frames_of (most_frames - n) (drop at b) ≡ ([], 23) = rw z (frames-full b at h) in
        ap (λ (u : List (List ℕ)). (u, 23)) (sym (append-nil (map (octets_at b) (take n spans)))) ∙ (rw e at w.rest)

    module _ (k : n < most_frames) where
      more : most_frames - n ≡ suc (most_frames - suc n)
      more = omega arith

      pub sofar-refused : (r : StreamRefused) → Means b at (Err r) → (map (octets_at b) (take n spans), number_of r) ≡ frames_of most_frames b
      sofar-refused r m =
          let e : frames_of (most_frames - n) (drop at b) ≡ ([], number_of r) = rw more (frames-refused b at h (most_frames - suc n) r m) in
          ap (λ (u : List (List ℕ)). (u, number_of r)) (sym (append-nil (map (octets_at b) (take n spans)))) ∙ (rw e at w.rest)

      pub sofar-more : (s : Span) → Means b at (Ok s) → Sofar b (set spans n s) (n + 1) (s.start + s.len)
      sofar-more s m =
          let taken : take (suc n) (set spans n s) ≡ take n spans ++ (s ∷ []) = take-suc-set spans n s (omega (arith, w.long)) in
          let later : List (List ℕ) × ℕ = frames_of (most_frames - suc n) (drop (s.start + s.len) b) in
          let e : frames_of (most_frames - n) (drop at b) ≡ (octets_at b s ∷ later.0, later.1) = rw more (frames-whole b at h (most_frames - suc n) s m) in
          let ms : List (List ℕ) = map (octets_at b) (take n spans) in
          let joined : map (octets_at b) (take (suc n) (set spans n s)) ≡ ms ++ (octets_at b s ∷ []) = ap (map (octets_at b)) taken ∙ map-append (octets_at b) (take n spans) (s ∷ []) in
          record {
            few = omega arith;
            within = m.1.0;
            long = length-set spans n s ∙ w.long;
            placed = one_more b spans n s (omega (arith, w.long)) w.placed m.1;
            rest =
                rw (add-one n)
                (ap (λ (u : List (List ℕ)). before u later) joined ∙ sym (before-one ms (octets_at b s) later) ∙ ap (before ms) (sym e) ∙ w.rest);
          }

-- a batch that is not refused, frame by frame
good-ended : (n : ℕ) → Good (wrong n) → sound (ended n) ≡ true
unfolding saved
good-ended n g = g

led-none : (s : Step) (r : List (List ℕ) × ℕ) {ms : List (List ℕ)} → Good s → led s r ≡ (ms, 0)
    → (m : List ℕ) × (s ≡ whole m) × (m ∷ r.0 ≡ ms) × (r.1 ≡ 0)
unfolding led
led-none (inside f) r g e =
    let z : ◌≡◌ {A = ℕ} 21 0 = ap (λ (u : List (List ℕ) × ℕ). u.1) e in
    absurd (omega arith)
led-none (whole m) r g e = (m, refl, ap (λ (u : List (List ℕ) × ℕ). u.0) e, ap (λ (u : List (List ℕ) × ℕ). u.1) e)
led-none (wrong n) r g e = absurd (refuses n (good-ended n g) (ap (λ (u : List (List ℕ) × ℕ). u.1) e))

-- octets that are all of a batch, or begin its next frame
silent-end : (xs : List ℕ) → length xs ≤ 0 → hears xs (going fresh) ≡ record { messages = []; refusals = []; remains = image (going fresh) }
unfolding hears
silent-end [] h = refl
silent-end (x ∷ xs) h = absurd (omega arith)

none_left : (n : ℕ) (xs : List ℕ) {ms : List (List ℕ)} → length xs ≤ 0 → frames_of n xs ≡ (ms, 0) → [] ≡ ms
unfolding frames_of
none_left zero xs h e = ap (λ (u : List (List ℕ) × ℕ). u.0) e
none_left (suc n) xs h e = ap (λ (u : List (List ℕ) × ℕ). u.0) (rw (le-ltb 0 (length xs) h) at e)

heard_all : (xs : List ℕ) {ms : List (List ℕ)} → length xs ≤ 0 → [] ≡ ms → hears xs (going fresh) ≡ record { messages = ms; refusals = []; remains = image (going fresh) }
heard_all xs h e = silent-end xs h ∙ ap (λ (u : List (List ℕ)). record { messages = u; refusals = []; remains = image (going fresh) }) e

heard-next : (xs : List ℕ) (r : List (List ℕ) × ℕ) {ms : List (List ℕ)} → AllOctets xs
    → led (run xs (inside fresh)).1 r ≡ (ms, 0)
    → (r.1 ≡ 0 → hears (drop (run xs (inside fresh)).0 xs) (going fresh) ≡ record { messages = r.0; refusals = []; remains = image (going fresh) })
    → hears xs (going fresh) ≡ record { messages = ms; refusals = []; remains = image (going fresh) }
unfolding noted
heard-next xs r {ms} o e f =
    let w = led-none (run xs (inside fresh)).1 r (good-run xs (inside fresh) (good-heading 0 (omega arith)) o) e in
    after-message xs {t = (run xs (inside fresh)).0} (ap (λ (s : Step). ((run xs (inside fresh)).0, s)) w.1)
    ∙ ap (noted (whole w.0)) (f w.3)
    ∙ ap (λ (u : List (List ℕ)). record { messages = u; refusals = []; remains = image (going fresh) }) w.2

pub batch-heard : BatchHeard
batch-heard zero xs ms o e = go (ltb 0 (length xs)) refl
  where
    go : (t : Bool) → ltb 0 (length xs) ≡ t → hears xs (going fresh) ≡ record { messages = ms; refusals = []; remains = image (going fresh) }
    go true q =
        let z : ◌≡◌ {A = ℕ} 23 0 = ap (λ (u : List (List ℕ) × ℕ). u.1) (sym (from-full xs (ltb-true 0 (length xs) q)) ∙ e) in
        absurd (omega arith)
    go false q = heard_all xs (ltb-false 0 (length xs) q) (none_left 0 xs (ltb-false 0 (length xs) q) e)
batch-heard (suc n) xs ms o e =
    let later : List (List ℕ) × ℕ = frames_of n (drop (run xs (inside fresh)).0 xs) in
    go (ltb 0 (length xs)) refl
    (λ z. batch-heard n (drop (run xs (inside fresh)).0 xs) later.0 (octets-drop (run xs (inside fresh)).0 xs o) (ap (λ (k : ℕ). (later.0, k)) z))
  where
    go : (t : Bool) → ltb 0 (length xs) ≡ t
        → ((frames_of n (drop (run xs (inside fresh)).0 xs)).1 ≡ 0
        → hears (drop (run xs (inside fresh)).0 xs) (going fresh) ≡ record { messages = (frames_of n (drop (run xs (inside fresh)).0 xs)).0; refusals = []; remains = image (going fresh) })
        → hears xs (going fresh) ≡ record { messages = ms; refusals = []; remains = image (going fresh) }
    go true q f = heard-next xs (frames_of n (drop (run xs (inside fresh)).0 xs)) o (sym (from_next n xs (ltb-true 0 (length xs) q)) ∙ e) f
    go false q f = heard_all xs (ltb-false 0 (length xs) q) (none_left (suc n) xs (ltb-false 0 (length xs) q) e)
