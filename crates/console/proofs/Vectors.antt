-- Examples of E7 and E10, computed. Assumes nothing.
use mathlib.Core.Path.{◌≡◌, refl}
use mathlib.Core.List.{List, [], ◌∷◌}
use Prim.Native.Nat.{ℕ}
use Rattle.console.specs.Frames.{heading, filling, fresh, Step, inside, whole, wrong, arrived, sized, step, run}
use Rattle.console.specs.Batch.{most_frames, led, frames_of}

-- a stream from fresh on
abbrev from : List ℕ → ℕ × Step
from xs = run xs (inside fresh)

pub record Streams : Type 0 where
  -- an empty message is complete at the fifth octet, and the call stops there
  empty : from (0x7F ∷ 0 ∷ 2 ∷ 0 ∷ 0 ∷ 0x7F ∷ []) ≡ (5, whole [])
  message : from (0x7F ∷ 0 ∷ 2 ∷ 0 ∷ 2 ∷ 7 ∷ 8 ∷ 9 ∷ []) ≡ (7, whole (7 ∷ 8 ∷ []))
  part : from (0x7F ∷ 0 ∷ 2 ∷ 0 ∷ 2 ∷ 7 ∷ []) ≡ (6, inside (filling 2 (7 ∷ [])))
  none : from [] ≡ (0, inside fresh)
  -- the first wrong octet: tag, high and low octet of the inner length
  tag : from (0x7E ∷ 0 ∷ []) ≡ (1, wrong 21)
  high : from (0x7F ∷ 1 ∷ 2 ∷ []) ≡ (2, wrong 21)
  low : from (0x7F ∷ 0 ∷ 3 ∷ 0 ∷ 0 ∷ []) ≡ (3, wrong 21)
  -- 22 not before the fifth octet; 1,472 is the greatest length
  not_yet : from (0x7F ∷ 0 ∷ 2 ∷ 0xFF ∷ []) ≡ (4, inside (heading 4 0xFF00))
  long : from (0x7F ∷ 0 ∷ 2 ∷ 5 ∷ 0xC1 ∷ 0 ∷ []) ≡ (5, wrong 22)
  longest : from (0x7F ∷ 0 ∷ 2 ∷ 5 ∷ 0xC0 ∷ []) ≡ (5, inside (filling 1472 []))

pub streams : Streams
unfolding arrived sized step run
streams = record { empty = refl; message = refl; part = refl; none = refl; tag = refl; high = refl; low = refl; not_yet = refl; long = refl; longest = refl }

pub record Batches : Type 0 where
  empty : frames_of most_frames [] ≡ ([], 0)
  two : frames_of most_frames (0x7F ∷ 0 ∷ 2 ∷ 0 ∷ 1 ∷ 7 ∷ 0x7F ∷ 0 ∷ 2 ∷ 0 ∷ 0 ∷ []) ≡ ((7 ∷ []) ∷ [] ∷ [], 0)
  header-cut : frames_of most_frames (0x7F ∷ 0 ∷ 2 ∷ 0 ∷ 0 ∷ 0x7F ∷ []) ≡ ([] ∷ [], 21)
  message-cut : frames_of most_frames (0x7F ∷ 0 ∷ 2 ∷ 0 ∷ 2 ∷ 7 ∷ []) ≡ ([], 21)
  -- a length over 1,472 is judged before the frame is found cut
  long : frames_of most_frames (0x7F ∷ 0 ∷ 2 ∷ 0xFF ∷ 0xFF ∷ []) ≡ ([], 22)
  many : frames_of 1 (0x7F ∷ 0 ∷ 2 ∷ 0 ∷ 0 ∷ 0 ∷ []) ≡ ([] ∷ [], 23)

pub batches : Batches
unfolding arrived sized step run led frames_of
batches = record { empty = refl; two = refl; header-cut = refl; message-cut = refl; long = refl; many = refl }
