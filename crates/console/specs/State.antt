-- What is saved of a stream between two calls, and its octets (docs/LAYOUT.md): "The saved state is at most 1,477 octets". Assumes nothing.
use Rattle.std.specs.Prelude.{Bool, cond, ◌&&◌, ◌||◌, List, [], ◌∷◌, ◌++◌, ℕ, ◌-◌, ◌%◌, eqb, leb, ltb, length, take, drop, get_or}
use Rattle.octets.specs.Numbers.{be_at, be_octets}
use Rattle.octets.specs.Parts.{zeros, same}
use Rattle.message.specs.Answer.{most_octets}
use Rattle.console.specs.Frames.{last_missing, header_wrong, length_over, Frame, heading, filling, fresh, Step, inside, whole, wrong}

-- an unfinished frame, or "only the number is kept" of a stream that ended
pub data Saved : Type 0 where
  going : Frame → Saved
  ended : (number : ℕ) → Saved

-- what is kept after a call: a message that was handed out leaves nothing
unfoldable pub saved : Step → Saved
saved (inside f) = going f
saved (whole m) = going fresh
saved (wrong n) = ended n

-- where a saved stream goes on
unfoldable pub resumed : Saved → Step
resumed (going f) = inside f
resumed (ended n) = wrong n

-- the length of a state
abbrev pub state_size : ℕ
state_size = 1477

-- where its parts start: a phase of one octet, a count and a message length of two octets each, and 1,472 octets of contents
abbrev pub at_phase : ℕ
at_phase = 0

abbrev pub at_count : ℕ
at_count = 1

abbrev pub at_size : ℕ
at_size = 3

abbrev pub at_contents : ℕ
at_contents = 5

-- the phases of a stream that goes on; the phase of one that ended is its number
abbrev pub header_phase : ℕ
header_phase = 0

abbrev pub contents_phase : ℕ
contents_phase = 1

-- phase p, count c, message length z, and the contents xs with zeros behind them
unfoldable pub state : (p c z : ℕ) (xs : List ℕ) → List ℕ
state p c z xs = p ∷ (be_octets 2 c ++ (be_octets 2 z ++ (xs ++ zeros (most_octets - length xs))))

-- the count is of the header's octets in the first phase, and of the contents in the second; a fresh state is all zeros
unfoldable pub image : Saved → List ℕ
image (going (heading c z)) = state header_phase c z []
image (going (filling n xs)) = state contents_phase (length xs) n xs
image (ended number) = state number 0 0 []

-- what a state says
unfoldable pub saved_in : (p c z : ℕ) (xs : List ℕ) → Saved
saved_in p c z xs = cond (eqb p header_phase) (going (heading c z)) (cond (eqb p contents_phase) (going (filling z (take c xs))) (ended p))

unfoldable pub saved_of : List ℕ → Saved
saved_of b = saved_in (get_or b at_phase 0) (be_at b at_count 2) (be_at b at_size 2) (drop at_contents b)

-- a saved stream that is one: an unfinished header, where only the fourth octet is of the message length; an unfinished message; or 21 or 22
unfoldable pub sound : Saved → Bool
sound (going (heading c z)) = ltb c last_missing && eqb z 0 || eqb c last_missing && (ltb z 65536 && eqb (z % 256) 0)
sound (going (filling n xs)) = leb n most_octets && ltb (length xs) n
sound (ended number) = eqb number header_wrong || eqb number length_over

-- octets that a stream leaves: the image of a sound saved stream
unfoldable pub is_left : List ℕ → Bool
is_left b = sound (saved_of b) && same (image (saved_of b)) b
