-- Frames on a stream (paper 02, E7: messages "preceded by a field 7F (hex) holding the message length in two octets"), octet by octet. Assumes nothing.
use Rattle.std.specs.Prelude.{cond, List, [], ◌∷◌, ◌++◌, ℕ, ◌+◌, ◌*◌, eqb, ltb, length, get_or}
use Rattle.octets.specs.Numbers.{be_octets}
use Rattle.message.specs.Answer.{most_octets}

-- how every frame begins: the tag 7F, and the length of a field of two octets
abbrev pub mark : List ℕ
mark = 0x7F ∷ 0 ∷ 2 ∷ []

abbrev pub mark_octets : ℕ
mark_octets = 3

-- the mark and the message length; and all of them but the last
abbrev pub header_size : ℕ
header_size = 5

abbrev pub last_missing : ℕ
last_missing = 4

-- the numbers that end a stream: "21 wrong header or inner length", "22 length over 1,472"
abbrev pub header_wrong : ℕ
header_wrong = 21

abbrev pub length_over : ℕ
length_over = 22

-- a message in its frame
unfoldable pub frame : List ℕ → List ℕ
frame m = mark ++ (be_octets 2 (length m) ++ m)

-- an unfinished frame: c octets of its header are there, and z is the message length as far as it is known; or the whole header is there, with the
-- message length n, and the contents xs so far
pub data Frame : Type 0 where
  heading : (c z : ℕ) → Frame
  filling : (n : ℕ) (xs : List ℕ) → Frame

-- nothing of a frame
abbrev pub fresh : Frame
fresh = heading 0 0

-- where a stream is after an octet: inside a frame, at the end of a message, which is handed out, or ended by a wrong octet, with its number
pub data Step : Type 0 where
  inside : Frame → Step
  whole : (m : List ℕ) → Step
  wrong : (number : ℕ) → Step

-- contents xs of a message of n octets: "hand out each complete message, an empty one too"
unfoldable pub arrived : (n : ℕ) (xs : List ℕ) → Step
arrived n xs = cond (eqb (length xs) n) (whole xs) (inside (filling n xs))

-- "22 length over 1,472, at the header's fifth octet"
unfoldable pub sized : (n : ℕ) → Step
sized n = cond (ltb most_octets n) (wrong length_over) (arrived n [])

-- "21 wrong header or inner length, at the first wrong octet"; the fourth octet and the fifth are the message length
unfoldable pub step : Frame → ℕ → Step
step (heading c z) o =
    cond (ltb c mark_octets) (cond (eqb o (get_or mark c 0)) (inside (heading (c + 1) 0)) (wrong header_wrong))
    (cond (eqb c mark_octets) (inside (heading (c + 1) (o * 256))) (sized (z + o)))
step (filling n xs) o = arrived n (xs ++ (o ∷ []))

-- octets one by one, to the end of a message, to a wrong octet or to the last octet: how many are taken, and where the stream is then
unfoldable pub run : List ℕ → Step → ℕ × Step
run [] s = (0, s)
run (o ∷ os) (inside f) = ((run os (step f o)).0 + 1, (run os (step f o)).1)
run (o ∷ os) (whole m) = (0, whole m)
run (o ∷ os) (wrong n) = (0, wrong n)
