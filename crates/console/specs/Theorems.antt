-- What is proved of requests over the serial console (paper 02, E7), for readers: `proofs/Theorems.antt` proves each statement. Assumes nothing.
use Rattle.std.specs.Prelude.{◌≡◌, true, false, ◌↔◌, ℕ, ◌+◌, ◌*◌, ◌≤◌, ◌<◌, length, take, get_or}
use mathlib.Core.List.{List, [], ◌∷◌, ◌++◌, map, flatten}
use Rattle.octets.specs.Parts.{zeros}
use Rattle.message.specs.Answer.{most_octets}
use Rattle.console.specs.Frames.{mark, mark_octets, header_size, header_wrong, length_over, frame, fresh, wrong}
use Rattle.console.specs.State.{going, image, saved_of, is_left, state_size}
use Rattle.console.specs.Calls.{room_short, refused, told, taking}
use Rattle.console.specs.Streams.{Heard, Session, Offers, hears, AllOctets}
use Rattle.console.specs.Batch.{frames_of}

-- "From one state a stream leaves, with room enough and untaken octets offered again, any cutting of the same octets gives the same messages, refusals
-- and remaining state." Chunks may be empty, and each call may have another room.
abbrev pub CuttingLaw : Type 0
CuttingLaw =
    (b : List ℕ) (cs ds : List (List ℕ)) (h k : Heard) → is_left b ≡ true → AllOctets (flatten cs)
    → flatten cs ≡ flatten ds
    → Session b cs h
    → Session b ds k
    → h ≡ k

-- The same of any two hosts that offer, at each call, as many of the octets left as they like, so that untaken octets may be joined to the next ones.
abbrev pub HostsLaw : Type 0
HostsLaw = (b xs : List ℕ) (h k : Heard) → is_left b ≡ true → AllOctets xs → Offers b xs h → Offers b xs k → h ≡ k

-- What a host hears in chunks is what is heard of their octets one by one.
abbrev pub ChunksLaw : Type 0
ChunksLaw =
    (b : List ℕ) (cs : List (List ℕ)) (h : Heard) → is_left b ≡ true → AllOctets (flatten cs)
    → Session b cs h
    → h ≡ hears (flatten cs) (saved_of b)

-- Every list of chunks can be offered to the end: for each cutting there is something that a host hears.
abbrev pub SessionsEnd : Type 0
SessionsEnd =
    (b : List ℕ) (cs : List (List ℕ)) (room : List ℕ) → is_left b ≡ true → AllOctets (flatten cs) → most_octets ≤ length room
    → (h : Heard) × Session b cs h

-- A state that a call leaves is one that a stream leaves: the call after it does not refuse it.
abbrev pub StaysLeft : Type 0
StaysLeft = (b chunk room : List ℕ) → is_left b ≡ true → AllOctets chunk → is_left (taking b chunk room).state ≡ true

-- b is what remains of some chunks that a host offered from a fresh state on.
abbrev pub StreamLeaves : List ℕ → Type 0
StreamLeaves b = (cs : List (List ℕ)) × (h : Heard) × AllOctets (flatten cs) × Session (zeros state_size) cs h × (h.remains ≡ b)

-- "21 .. a saved state no stream leaves": exactly the states that a stream leaves pass the test of a saved state.
abbrev pub LeftExactly : Type 0
LeftExactly = (b : List ℕ) → AllOctets b → (is_left b ≡ true) ↔ StreamLeaves b

-- "1 as before": the first thing that is judged; room and saved state keep every octet, and nothing is taken.
abbrev pub ShortRoom : Type 0
ShortRoom = (b chunk room : List ℕ) → length room < most_octets → taking b chunk room ≡ refused room_short room b

-- "none for a bad saved state, which stays as it is"; the room keeps every octet too.
abbrev pub BadState : Type 0
BadState = (b chunk room : List ℕ) → most_octets ≤ length room → is_left b ≡ false → taking b chunk room ≡ refused header_wrong room b

-- Every refusal keeps the room and hands nothing out: what 21 and 22 write is the saved state alone.
abbrev pub KeepsRoom : Type 0
KeepsRoom =
    (b chunk room : List ℕ) → ((taking b chunk room).number ≡ 0 → ⊥)
    → ((taking b chunk room).room ≡ room) × ((taking b chunk room).complete ≡ 0) × ((taking b chunk room).count ≡ 0)

-- "Either of 21 and 22 ends that stream .. later calls take none and repeat it": whatever the next call is offered, number and state stay.
abbrev pub Repeats : Type 0
Repeats =
    (b chunk next room later : List ℕ) → most_octets ≤ length room → most_octets ≤ length later → AllOctets chunk
    → ((taking b chunk room).number ≡ 0 → ⊥)
    → taking (taking b chunk room).state next later ≡ refused (taking b chunk room).number later (taking b chunk room).state

-- "21 wrong header or inner length, at the first wrong octet": c right octets and a wrong one are taken, and the stream has ended.
abbrev pub FirstWrongOctet : Type 0
FirstWrongOctet =
    (c o : ℕ) (rest room : List ℕ) → c < mark_octets → (o ≡ get_or mark c 0 → ⊥) → most_octets ≤ length room
    → taking (zeros state_size) (take c mark ++ (o ∷ rest)) room ≡ told room (c + 1, wrong header_wrong)

-- "22 length over 1,472, at the header's fifth octet": five octets are taken, whatever the fourth one is.
abbrev pub FifthOctet : Type 0
FifthOctet =
    (high low : ℕ) (rest room : List ℕ) → most_octets < high * 256 + low → most_octets ≤ length room
    → taking (zeros state_size) (mark ++ (high ∷ low ∷ rest)) room ≡ told room (header_size, wrong length_over)

-- What a reset writes, 1,477 octets of 0, is the fresh state, and a stream leaves it.
abbrev pub FreshIsZero : Type 0
FreshIsZero = (image (going fresh) ≡ zeros state_size) × (is_left (zeros state_size) ≡ true)

-- Messages of at most 1,472 octets, empty ones too, in frames one behind the other: they are heard as they are, and nothing remains.
abbrev pub FramedLaw : Type 0
FramedLaw =
    (ms : List (List ℕ)) → ((i : ℕ) → length (get_or ms i []) ≤ most_octets)
    → hears (flatten (map frame ms)) (going fresh) ≡ record { messages = ms; refusals = []; remains = image (going fresh) }

-- E10: the messages of a batch whose frames are all whole are those that the console hears of its octets.
abbrev pub BatchHeard : Type 0
BatchHeard =
    (n : ℕ) (xs : List ℕ) (ms : List (List ℕ)) → AllOctets xs → frames_of n xs ≡ (ms, 0)
    → hears xs (going fresh) ≡ record { messages = ms; refusals = []; remains = image (going fresh) }
