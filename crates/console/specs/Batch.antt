-- The frames of a batch (paper 02, E10: "The batch is messages framed as in E7"). Assumes nothing.
use Rattle.std.specs.Prelude.{◌≡◌, cond, List, [], ◌∷◌, ℕ, zero, suc, ◌+◌, ◌-◌, ◌≤◌, ◌<◌, ltb, length, drop, get_or, Result, Ok, Err}
use Rattle.octets.specs.Parts.{part}
use Rattle.message.specs.Answer.{most_octets}
use Rattle.console.specs.Frames.{header_wrong, fresh, Step, inside, whole, wrong, run}
use Rattle.console.specs.declared.frames.Span.{Span}
use Rattle.console.specs.Refusals.{number_of}
use Rattle.console.specs.declared.refusals.StreamRefused.{StreamRefused}

-- "up to 64 set messages"
abbrev pub most_frames : ℕ
most_frames = 64

-- "23 for any octet after 64 frames"
abbrev pub frames_many : ℕ
frames_many = 23

-- a frame before the others: "left to right 21 and 22 for frames (a cut one is 21 ..)"
unfoldable pub led : Step → List (List ℕ) × ℕ → List (List ℕ) × ℕ
led (inside f) r = ([], header_wrong)
led (whole m) r = (m ∷ r.0, r.1)
led (wrong n) r = ([], n)

-- the messages of at most n frames, and the number that ends them, 0 at the end of the octets
unfoldable pub frames_of : (n : ℕ) (xs : List ℕ) → List (List ℕ) × ℕ
frames_of zero xs = ([], cond (ltb 0 (length xs)) frames_many 0)
frames_of (suc n) xs = cond (ltb 0 (length xs)) (led (run xs (inside fresh)).1 (frames_of n (drop (run xs (inside fresh)).0 xs))) ([], 0)

-- the message that stands at a place of b
abbrev pub octets_at : List ℕ → Span → List ℕ
octets_at b s = part b s.start s.len

-- a place in b, of a message that is not too long
abbrev pub Within : List ℕ → Span → Type 0
Within b s = (s.start + s.len ≤ length b) × (s.len ≤ most_octets)

abbrev pub no_span : Span
no_span = record { start = 0; len = 0 }

-- the first n places are in b
abbrev pub AllWithin : List ℕ → List Span → ℕ → Type 0
AllWithin b spans n = (i : ℕ) → i < n → Within b (get_or spans i no_span)

-- a frame read at index at: the span of its message, or the refusal that ends the batch, whatever comes after
abbrev pub Means : (b : List ℕ) (at : ℕ) → Result Span StreamRefused → Type 0
Means b at (Ok s) = (at ≤ s.start) × Within b s × (run (drop at b) (inside fresh) ≡ (s.start + s.len - at, whole (octets_at b s)))
Means b at (Err e) = (r : List (List ℕ) × ℕ) → led (run (drop at b) (inside fresh)).1 r ≡ ([], number_of e)
