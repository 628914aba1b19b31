-- What the code's own numbers mean: a position in a header, a state's numbers, and what an inner function finds. Assumes nothing.
use Rattle.std.specs.Prelude.{◌≡◌, Bool, cond, ◌&&◌, List, [], ◌∷◌, ◌++◌, ℕ, ◌+◌, ◌-◌, ◌≤◌, ◌<◌, eqb, leb, ltb, length, drop, get_or, Result, Ok, Err, IfOk}
use Rattle.octets.specs.Numbers.{be_at, be_octets}
use Rattle.octets.specs.Parts.{zeros}
use Rattle.message.specs.Answer.{most_octets}
use Rattle.console.specs.Frames.{header_size, Frame, heading, Step, inside, wrong, arrived, step, run}
use Rattle.console.specs.State.{going, ended, sound, state_size, at_phase, at_count, at_size, at_contents, header_phase, contents_phase}
use Rattle.console.specs.declared.state.Front.{Front}
use Rattle.console.specs.Refusals.{number_of}
use Rattle.console.specs.declared.refusals.StreamRefused.{StreamRefused}
use Rattle.console.specs.declared.header.Position.{Position}
use Rattle.console.specs.declared.header.FrameHead.{FrameHead}

-- the frame of a position in its header
abbrev pub heading_of : Position → Frame
heading_of p = heading p.count p.size

-- where octets lead: to a wrong one, or to a position; with five octets the header is whole
abbrev pub meant : Result Position StreamRefused → Step
meant (Ok p) = cond (eqb p.count header_size) (arrived p.size []) (inside (heading_of p))
meant (Err r) = wrong (number_of r)

-- the same run, after n octets more
abbrev pub moved : ℕ → ℕ × Step → ℕ × Step
moved n r = (r.0 + n, r.1)

-- a position in a header, before its last octet
abbrev pub InHeader : (count size : ℕ) → Type 0
InHeader count size = (count < header_size) × (size < 65536)

-- a whole header, with a message length that is not over
abbrev pub Fits : Position → Type 0
Fits p = p.count ≡ header_size → p.size ≤ most_octets

-- what an octet makes of a position in the header
pub record NextPosition (p : Position) (octet : ℕ) (r : Result Position StreamRefused) : Type 0 where
  pub means : step (heading_of p) octet ≡ meant r
  pub further : IfOk r (λ q. (q.count ≡ p.count + 1) × (q.size < 65536))
  pub fits : IfOk r Fits

-- what the octets of a chunk make of it, as far as the header goes
pub record HeadOf (chunk : List ℕ) (p : Position) (h : FrameHead) : Type 0 where
  pub means : run chunk (inside (heading_of p)) ≡ moved h.taken (run (drop h.taken chunk) (meant h.reached))
  pub within : h.taken ≤ length chunk
  pub few : h.taken ≤ header_size
  pub fits : IfOk h.reached Fits
  pub used : IfOk h.reached (λ q. (q.count ≡ header_size → ⊥) → drop h.taken chunk ≡ [])

-- a state's octets with zeros behind the first held octets of its contents
pub record Tail (b : List ℕ) (held : ℕ) : Type 0 where
  pub sized : length b ≡ state_size
  pub fits : held ≤ most_octets
  pub clear : drop (at_contents + held) b ≡ zeros (most_octets - held)

-- the numbers that the octets of a state hold, of two octets each
pub record FrontOf (b : List ℕ) (f : Front) : Type 0 where
  pub phase : f.phase ≡ get_or b at_phase 0
  pub count : f.count ≡ be_at b at_count 2
  pub size : f.size ≡ be_at b at_size 2
  pub small : f.size < 65536

-- the first five octets of a state
abbrev pub front : (p c z : ℕ) → List ℕ
front p c z = p ∷ (be_octets 2 c ++ be_octets 2 z)

-- whether a stream leaves these numbers, and how many octets of contents they speak of
unfoldable pub numbers_ok : (p c z : ℕ) → Bool
numbers_ok p c z =
    cond (eqb p header_phase) (sound (going (heading c z)))
    (cond (eqb p contents_phase) (leb z most_octets && ltb c z) (sound (ended p) && (eqb c 0 && eqb z 0)))

unfoldable pub held_in : (p c : ℕ) → ℕ
held_in p c = cond (eqb p contents_phase) c 0
