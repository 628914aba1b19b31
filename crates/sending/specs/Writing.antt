-- The writing of a response as a datagram (E2: "write an answer back, community echoed", "writing uses the shortest", "Writing takes only responses: 4 to 8 as before,
-- 7 only for another kind"). Assumes nothing.
use Rattle.std.specs.Prelude.{ℕ, zero, suc, ◌+◌, ◌*◌, ◌-◌, ◌/◌, ◌%◌, ◌≤◌, ◌<◌, ◌≡◌, Bool, true, false, cond, ◌&&◌, ◌||◌, List, [], ◌∷◌, ◌++◌, map, length, get_or, take, leb, ltb, eqb, Result, Ok, Err}
use Rattle.octets.specs.Numbers.{be_at, be_octets}
use Rattle.octets.specs.Parts.{patch}
use Rattle.names.specs.SubIds.{subids}
use Rattle.message.specs.declared.refusals.Reason.TheVariants.{HeadWrong, NoCounterpart}
use Rattle.message.specs.Refusals.{number_of}
use Rattle.message.specs.declared.form.Refusal.{Refusal}
use Rattle.message.specs.declared.form.Role.TheVariants.{Kind, Bind, Name}
use Rattle.message.specs.declared.request.Head.{Head}
use Rattle.message.specs.declared.request.Binding.{Binding}
use Rattle.message.specs.declared.request.Bound.{Bound as Read}
use Rattle.message.specs.Form.{checked_at, content_length, refusal, at_kind_field, at_kind, head_size, most_bindings}
use Rattle.message.specs.Request.{checked_then, id_of, content_in, seventeenth, Bindings, ended, all, binding_then, Reading, refused, message, with_bindings, head_then, no_binding}
use Rattle.message.specs.Answer.{Bound, most_octets, bound_at}
use Rattle.ber.specs.Ber.{fewest}

-- ## Fields, in the shortest form

-- the octets of a length below 65,536; a datagram has no longer one
unfoldable pub length_form : ℕ → List ℕ
length_form n = cond (ltb n 128) (n ∷ []) (cond (ltb n 256) (0x81 ∷ n ∷ []) (0x82 ∷ be_octets 2 n))

abbrev pub header_form : (tag len : ℕ) → List ℕ
header_form tag len = tag ∷ length_form len

unfoldable pub ber_octets : (tag : ℕ) → List ℕ → List ℕ
ber_octets tag contents = header_form tag (length contents) ++ contents

-- a number in the fewest octets: two's complement without the octets in front that only repeat the sign
unfoldable pub shortened : List ℕ → List ℕ
shortened [] = []
shortened (x ∷ []) = x ∷ []
shortened (x ∷ y ∷ ys) = cond (fewest (x ∷ y ∷ ys)) (x ∷ y ∷ ys) (shortened (y ∷ ys))

-- ## Names

-- the octets of a number to the base 128 before its last, at most k of them
unfoldable pub going_on : (k n : ℕ) → List ℕ
going_on zero n = []
going_on (suc k) n = cond (eqb n 0) [] (going_on k (n / 128) ++ ((128 + n % 128) ∷ []))

-- a number below 2 ^ 35, in the fewest octets
unfoldable pub base128 : ℕ → List ℕ
base128 n = going_on 4 (n / 128) ++ (n % 128 ∷ [])

unfoldable pub numbers_octets : List ℕ → List ℕ
numbers_octets [] = []
numbers_octets (n ∷ ns) = base128 n ++ numbers_octets ns

-- the first two sub-ids make one number
abbrev pub first_one : List ℕ → List ℕ
first_one [] = []
first_one (x ∷ []) = []
first_one (x ∷ y ∷ ys) = (40 * x + y) ∷ ys

unfoldable pub name_ber : (name : List ℕ) → List ℕ
name_ber name = numbers_octets (first_one (subids name))

-- ## Contents

-- the tag of a content by our tag
unfoldable pub ber_tag : ℕ → ℕ
ber_tag tag =
    cond (eqb tag 0x20) 0x05
    (cond (eqb tag 0x21) 0x02
    (cond (eqb tag 0x22) 0x04
    (cond (eqb tag 0x23) 0x42
    (cond (eqb tag 0x24) 0x41
    (cond (eqb tag 0x30) 0x80 (cond (eqb tag 0x31) 0x81 0x82))))))

-- an unsigned number or a counter has a sign octet in front
unfoldable pub content_ber : (tag : ℕ) → List ℕ → List ℕ
content_ber tag xs = cond (eqb tag 0x21) (shortened xs) (cond (eqb tag 0x23 || eqb tag 0x24) (shortened (0 ∷ xs)) xs)

-- ## The datagram

unfoldable pub binding_ber : Bound → List ℕ
binding_ber b = ber_octets 0x30 (ber_octets 0x06 (name_ber b.name) ++ ber_octets (ber_tag b.tag) (content_ber b.tag b.content))

unfoldable pub bindings_ber : List Bound → List ℕ
bindings_ber [] = []
bindings_ber (b ∷ bs) = binding_ber b ++ bindings_ber bs

-- request id, status, index and the list of bindings
unfoldable pub response_ber : (id status index : ℕ) → List Bound → List ℕ
response_ber id status index bs =
    ber_octets 0xA2
    (ber_octets 0x02 (shortened (be_octets 4 id))
    ++ (ber_octets 0x02 (shortened (0 ∷ status ∷ [])) ++ (ber_octets 0x02 (shortened (0 ∷ index ∷ [])) ++ ber_octets 0x30 (bindings_ber bs))))

-- version 1, the community, the response
unfoldable pub datagram_octets : (community : List ℕ) → (id status index : ℕ) → List Bound → List ℕ
datagram_octets community id status index bs =
    ber_octets 0x30 (ber_octets 0x02 (1 ∷ []) ++ (ber_octets 0x04 community ++ response_ber id status index bs))

-- ## The same, by what stands before the parts that the code puts

-- before the bindings of a response, from their size
unfoldable pub response_fields : (size id status index : ℕ) → List ℕ
response_fields size id status index =
    ber_octets 0x02 (shortened (be_octets 4 id))
    ++ (ber_octets 0x02 (shortened (0 ∷ status ∷ [])) ++ (ber_octets 0x02 (shortened (0 ∷ index ∷ [])) ++ header_form 0x30 size))

unfoldable pub response_front : (size id status index : ℕ) → List ℕ
response_front size id status index =
    header_form 0xA2 (length (response_fields size id status index) + size) ++ response_fields size id status index

-- before the community, from its size and the response's
unfoldable pub datagram_fields : (community : ℕ) → List ℕ
datagram_fields community = ber_octets 0x02 (1 ∷ []) ++ header_form 0x04 community

unfoldable pub datagram_front : (community rest : ℕ) → List ℕ
datagram_front community rest = header_form 0x30 (length (datagram_fields community) + (community + rest)) ++ datagram_fields community

-- ## The message that is written

-- "Names need a first sub-id of 0 to 2, the second below 40 unless the first is 2": of a name whose octets start at an offset
unfoldable pub name_written : List ℕ → ℕ → Bool
name_written s at = eqb (be_at s at 4) 2 || (ltb (be_at s at 4) 2 && ltb (be_at s (at + 4) 4) 40)

-- "19 .. name with no counterpart" is judged at the name, before the content
unfoldable pub response_in : List ℕ → (at end : ℕ) → Result Read Refusal
response_in s at end =
    checked_then (checked_at Name s at end) Err
    (λ tag start len. cond (name_written s start) (content_in 2 s end start len) (Err (refusal NoCounterpart 0)))

unfoldable pub response_at : List ℕ → ℕ → Result Read Refusal
response_at s at = checked_then (checked_at Bind s at (length s)) Err (λ tag start len. response_in s start (start + len))

unfoldable pub responses_from : List ℕ → (left at : ℕ) → Bindings
responses_from s zero at = cond (leb (length s) at) (all []) (ended (seventeenth s at))
responses_from s (suc left) at = cond (leb (length s) at) (all []) (binding_then (response_at s at) (λ next. responses_from s left next))

-- "7 only for another kind": the status and the index of a response are any
unfoldable pub response_head : List ℕ → Result Head Refusal
response_head s =
    checked_then (checked_at Kind s at_kind_field (length s)) Err (λ tag start len. cond (eqb (get_or s at_kind 0) 2) (id_of s 2) (Err (refusal HeadWrong at_kind_field)))

unfoldable pub read_response : List ℕ → Reading
read_response s = head_then (response_head s) (λ kind id status index. with_bindings kind id status index (responses_from s most_bindings head_size))

-- bindings as the code holds them: the first n of the array
abbrev pub answered : Result ℕ Refusal → List Binding → Bindings
answered (Ok n) bs = all (take n bs)
answered (Err r) bs = ended r

-- what the code that writes a binding of a response asks of it
pub record Writable (s : List ℕ) (b : Binding) : Type 0 where
  pub long : 8 ≤ b.size
  pub short : b.size ≤ 512
  pub fours : b.size % 4 ≡ 0
  pub named : b.name + b.size ≤ length s
  pub written : name_written s b.name ≡ true
  pub filled : b.content + b.len ≤ length s
  pub brief : b.len ≤ 255
  pub right : content_length b.tag b.len ≡ true

pub record Ready (s : List ℕ) (bs : List Binding) : Type 0 where
  pub few : length bs ≤ 16
  pub each : (i : ℕ) → i < length bs → Writable s (get_or bs i no_binding)

-- xs stands before place p and starts at r, in b, which was a
pub record Put (a b : List ℕ) (r p : ℕ) (xs : List ℕ) : Type 0 where
  pub starts : r + length xs ≡ p
  pub filled : b ≡ patch a r xs

-- ## The call

-- what a call gives: number, count, the offset of E9 with 4 to 8, and the room afterwards
pub record Sent : Type 0 where
  pub number : ℕ
  pub count : ℕ
  pub offset : ℕ
  pub room : List ℕ

abbrev pub not_sent : (number offset : ℕ) → List ℕ → Sent
not_sent number offset room = record { number = number; count = 0; offset = offset; room = room }

-- "20 on the output last"
abbrev pub sent : List ℕ → List ℕ → Sent
sent room octets =
    cond (leb (length octets) most_octets) (record { number = 0; count = length octets; offset = 0; room = patch room 0 octets }) (not_sent 20 0 room)

unfoldable pub sent_by : (room community s : List ℕ) → Reading → Sent
sent_by room community s (refused r) = not_sent (number_of r.reason) r.at room
sent_by room community s (message kind id status index bs) = sent room (datagram_octets community id status index (map (bound_at s) bs))

-- "1 first, then 20 on the input, then left to right"
unfoldable pub to_datagram : (room community s : List ℕ) → Sent
to_datagram room community s =
    cond (ltb (length room) most_octets) (not_sent 1 0 room)
    (cond (ltb most_octets (length s)) (not_sent 20 0 room) (sent_by room community s (read_response s)))

-- what a call that returned says
abbrev pub sent_as : Result ℕ Refusal → List ℕ → Sent
sent_as (Ok n) room = record { number = 0; count = n; offset = 0; room = room }
sent_as (Err r) room = not_sent (number_of r.reason) r.at room

-- its count and its offset are numbers of 32 bits
abbrev pub Brief : Result ℕ Refusal → Type 0
Brief (Ok n) = n ≤ most_octets
Brief (Err r) = r.at ≤ most_octets + 16
