-- What the call that writes a datagram leaves, and what holds of the calls for datagrams together with the answer call. Assumes nothing.
use Rattle.std.specs.Prelude.{ℕ, ◌≤◌, ◌<◌, ◌≡◌, true, false, List, length, get_or, take}
use Rattle.block.specs.Valid.{legal}
use Rattle.message.specs.Answer.{most_octets}
use Rattle.datagram.specs.Reading.{from_datagram}
use Rattle.sending.specs.Writing.{Sent}
use Rattle.answer.specs.Respond.{answer_of}
use Rattle.refbridge.specs.declared.RbResult.{RbResult}

-- a result's number, count and offset, with the room afterwards
abbrev pub sent_by : RbResult → List ℕ → Sent
sent_by r room = record { number = r.number; count = r.count; offset = r.offset; room = room }

-- A message that the reading of requests hands over (a refusal's count is 0) is answered, on a legal block and with an answer room that is long enough: of the answer call's refusals only 1 and 3 are left.
abbrev pub HandedOverIsAnswered : Type 0
HandedOverIsAnswered =
    (room s block answer : List ℕ) → ((i : ℕ) → get_or s i 0 < 256) → 0 < (from_datagram false room s).count → most_octets ≤ length answer → legal block ≡ true
    → (answer_of block (take (from_datagram false room s).count (from_datagram false room s).room) answer).number ≡ 0
