-- What holds of datagrams that are written and read again, as named statements; proofs/ has a proof of each. Assumes nothing.
use Rattle.std.specs.Prelude.{ℕ, ◌^◌, ◌≤◌, ◌<◌, ◌≡◌, true, List, [], ◌∷◌, map, length, get_or, Ok}
use Rattle.octets.specs.Parts.{part, patch}
use Rattle.message.specs.declared.request.Binding.{Binding}
use Rattle.message.specs.Answer.{Bound, most_octets}
use Rattle.message.specs.Request as request
use Rattle.message.specs.Answer as form
use Rattle.message.specs.Theorems.{Sendable}
use Rattle.datagram.specs.Reading.{Message, read_datagram, bound_at, from_datagram}
use Rattle.sending.specs.Writing.{name_written, datagram_octets, read_response, to_datagram}

-- a binding that a response's datagram may carry: one of an answer, with a name that has a counterpart
pub record Carried (b : Bound) : Type 0 where
  pub sendable : Sendable b
  pub written : name_written b.name 0 ≡ true

abbrev pub AllCarried : List Bound → Type 0
AllCarried [] = Unit {0}
AllCarried (b ∷ bs) = Carried b × AllCarried bs

-- a message that was read, with the place of its community
abbrev pub message_read : (kind id status index at size : ℕ) → List Binding → Message
message_read kind id status index at size bs =
    record { kind = kind; id = id; status = status; index = index; community = record { start = at; len = size }; bindings = bs }

-- With the reading that takes responses, reading the octets that are written gives the message that was written, and the community.
abbrev pub ReadsBack : Type 0
ReadsBack =
    (community : List ℕ) (id status index : ℕ) (bs : List Bound) → id < 2 ^ 32 → length bs ≤ 16 → AllCarried bs → length (datagram_octets community id status index bs) ≤ most_octets
    → (at : ℕ) × (rs : List Binding)
    × (read_datagram true (datagram_octets community id status index bs) ≡ Ok (message_read 2 id status index at (length community) rs))
    × (map (bound_at (datagram_octets community id status index bs)) rs ≡ bs)
    × (part (datagram_octets community id status index bs) at (length community) ≡ community)

-- A response in our message form that is written as a datagram, and read by the call that takes responses, is the same message, octet by octet, and its community is the same.
abbrev pub SentReadsBack : Type 0
SentReadsBack =
    (room fresh community s : List ℕ) (kind id status index : ℕ) (bs : List Binding) → ((i : ℕ) → get_or s i 0 < 256) → length s ≤ most_octets → most_octets ≤ length room → most_octets ≤ length fresh
    → read_response s ≡ request.message kind id status index bs → length (datagram_octets community id status index (map (form.bound_at s) bs)) ≤ most_octets
    → (datagram : List ℕ) × (at : ℕ)
    × (to_datagram room community s ≡ record { number = 0; count = length datagram; offset = 0; room = patch room 0 datagram })
    × (from_datagram true fresh datagram ≡ record { number = 0; count = length s; community = at; size = length community; room = patch fresh 0 s })
    × (part datagram at (length community) ≡ community)
