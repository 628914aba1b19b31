-- The messages of a batch one by one, from a place on. Assumes nothing.
use Prim.Native.Nat.{ℕ, zero, suc, ◌+◌, ◌-◌, ◌≤◌, ◌<◌}
use native.Mathlib.Omega.{arith}
use mathlib.Core.Path.{◌≡◌, sym, ap, subst, ◌∙◌}
use mathlib.Core.Bool.{true}
use mathlib.Core.List.{List, [], ◌∷◌, map}
use lib.Dec.{leb}
use lib.ListN.{length, drop}
use borrow.Author.Tests.{leb-true, leb-false}
use Rattle.octets.proofs.BoolLaws.{by_bool}
use Rattle.names.specs.declared.model.Model.{Model}
use Rattle.octets.specs.Ascending.{All as Every}
use Rattle.message.specs.Request.{read_request}
use Rattle.answer.specs.Terms.{is_set}
use Rattle.message.proofs.FormLaws.{clash}
use Rattle.console.specs.Frames.{Step, inside, whole, fresh, run}
use Rattle.console.specs.Batch.{most_frames, frames_many, frames_of, octets_at, Means}
use Rattle.console.specs.declared.frames.Span.{Span}
use Rattle.console.specs.Refusals.{number_of}
use Rattle.console.specs.declared.refusals.StreamRefused.{StreamRefused}
use Rattle.console.specs.declared.refusals.StreamRefused.TheVariants.{HeaderWrong, LengthOver, TooManyFrames}
use Rattle.std.specs.Prelude.{Ok, Err}
use Rattle.console.proofs.BatchLaws.{frames-end, frames-full, frames-refused, frames-whole}
use Rattle.batch.specs.Names.{groups_of}
use Rattle.batch.specs.Found.{frames_from, named_from, Goes, SetsFrom}

module _ (b : List ℕ) (at i : ℕ) where
  pub from_end : length b ≤ at → frames_from b at i ≡ ([], 0)
  from_end h = frames-end (most_frames + 1 - i) b at h

  module _ (h : at < length b) where
    pub from-full : most_frames < i → frames_from b at i ≡ ([], frames_many)
    from-full k = let z : most_frames + 1 - i ≡ 0 = omega arith in rw z (frames-full b at h)

    module _ (k : i ≤ most_frames) where
      more : most_frames + 1 - i ≡ suc (most_frames + 1 - (i + 1))
      more = omega arith

      pub from-refused : (r : StreamRefused) → Means b at (Err r) → frames_from b at i ≡ ([], number_of r)
      from-refused r m = rw more (frames-refused b at h (most_frames + 1 - (i + 1)) r m)

      pub from-whole : (s : Span) → Means b at (Ok s)
          → frames_from b at i ≡ (octets_at b s ∷ (frames_from b (s.start + s.len) (i + 1)).0, (frames_from b (s.start + s.len) (i + 1)).1)
      from-whole s m = rw more (frames-whole b at h (most_frames + 1 - (i + 1)) s m)

-- a frame that is not wrong is whole
pub refuses : (r : StreamRefused) → number_of r ≡ 0 → ⊥
refuses HeaderWrong e = omega arith
refuses LengthOver e = omega arith
refuses TooManyFrames e = omega arith

pub goes_on : (b : List ℕ) (at : ℕ) (r : StreamRefused) → Goes b at → Means b at (Err r) → ⊥
goes_on b at r g m = go g.1.0 g.1.1
  where
    go : (n : ℕ) → (frames_of n (drop at b)).1 ≡ 0 → ⊥
    go zero e =
        let z : frames_many ≡ 0 = sym (ap (λ (f : List (List ℕ) × ℕ). f.1) (frames-full b at g.0)) ∙ e in
        omega arith
    go (suc n) e = refuses r (sym (ap (λ (f : List (List ℕ) × ℕ). f.1) (frames-refused b at g.0 n r m)) ∙ e)

-- a message ends behind the place where its frame starts
run-goes : (xs : List ℕ) {n : ℕ} {m : List ℕ} → run xs (inside fresh) ≡ (n, whole m) → 0 < n
unfolding run
run-goes [] {n} {m} e = let z : inside fresh ≡ whole m = ap (λ (u : ℕ × Step). u.1) e in clash (cc)
run-goes (x ∷ xs) e = omega (arith, ap (λ (u : ℕ × Step). u.0) e)

pub further : (b : List ℕ) (at : ℕ) {s : Span} → Means b at (Ok s) → at < s.start + s.len
further b at m = omega (arith, run-goes (drop at b) m.2)

-- what a message names, where none is left
pub named_end : (d : Model) (b : List ℕ) (at i : ℕ) → length b ≤ at → named_from d b at i ≡ []
named_end d b at i h = ap (λ (f : List (List ℕ) × ℕ). map (groups_of d) f.0) (from_end b at i h)

-- messages that are all sets: the first one, and those behind it
module _ {b : List ℕ} {at i : ℕ} (w : SetsFrom b at i) (h : at < length b) where
  pub few : i ≤ most_frames
  few =
      by_bool (leb i most_frames) (λ e. leb-true i most_frames e)
      (λ e.
      let z : frames_many ≡ 0 = sym (ap (λ (f : List (List ℕ) × ℕ). f.1) (from-full b at i h (leb-false i most_frames e))) ∙ w.right in
      absurd (omega arith))

  pub goes : Goes b at
  goes = (h, (most_frames + 1 - i, w.right))

  module _ {s : Span} (m : Means b at (Ok s)) where
    first : frames_from b at i ≡ (octets_at b s ∷ (frames_from b (s.start + s.len) (i + 1)).0, (frames_from b (s.start + s.len) (i + 1)).1)
    first = from-whole b at i h few s m

    all-sets : Every (λ m. is_set (read_request m) ≡ true) (octets_at b s ∷ (frames_from b (s.start + s.len) (i + 1)).0)
    all-sets = subst (Every (λ m. is_set (read_request m) ≡ true)) (ap (λ (f : List (List ℕ) × ℕ). f.0) first) w.sets

    pub set_here : is_set (read_request (octets_at b s)) ≡ true
    set_here = all-sets.0

    pub sets_behind : SetsFrom b (s.start + s.len) (i + 1)
    sets_behind = record { within = m.1.0; right = sym (ap (λ (f : List (List ℕ) × ℕ). f.1) first) ∙ w.right; sets = all-sets.1 }

    pub named-turn : (d : Model) → named_from d b at i ≡ groups_of d (octets_at b s) ∷ named_from d b (s.start + s.len) (i + 1)
    named-turn d = ap (λ (f : List (List ℕ) × ℕ). map (groups_of d) f.0) first

-- behind the 64th message there is none
pub all-behind : {b : List ℕ} {at i : ℕ} → SetsFrom b at i → most_frames < i → length b ≤ at
all-behind {b} {at} {i} w k =
    by_bool (leb (length b) at) (λ e. leb-true (length b) at e)
    (λ e. let f : i ≤ most_frames = few w (leb-false (length b) at e) in absurd (omega arith))
