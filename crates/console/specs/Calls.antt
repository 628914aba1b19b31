-- What the two calls answer (paper 02, E7). Assumes nothing.
use Rattle.std.specs.Prelude.{cond, List, ℕ, eqb, ltb, length}
use Rattle.octets.specs.Parts.{patch, zeros}
use Rattle.message.specs.Answer.{most_octets}
use Rattle.console.specs.Frames.{header_wrong, Step, inside, whole, wrong, run}
use Rattle.console.specs.State.{saved, resumed, image, saved_of, is_left, state_size}
use Rattle.console.specs.declared.RbConsole.{RbConsole}

-- number, octets taken, whether a message was handed out, its length, and room and state after a call
pub record ConsoleOutcome : Type 0 where
  pub number : ℕ
  pub taken : ℕ
  pub complete : ℕ
  pub count : ℕ
  pub room : List ℕ
  pub state : List ℕ

abbrev pub outcome : RbConsole → (room state : List ℕ) → ConsoleOutcome
outcome r room state = record { number = r.number; taken = r.taken; complete = r.complete; count = r.count; room = room; state = state }

-- "1 as before": the room has under 1,472 octets
abbrev pub room_short : ℕ
room_short = 1

-- "a refusal keeps all lent octets and gives 0 in every other result"
abbrev pub refused : ℕ → (room state : List ℕ) → ConsoleOutcome
refused n room state = record { number = n; taken = 0; complete = 0; count = 0; room = room; state = state }

-- a call that took t octets and came to a step: "hand out each complete message, an empty one too"; "only the number is kept"
unfoldable pub told : List ℕ → ℕ × Step → ConsoleOutcome
told room (t, inside f) = record { number = 0; taken = t; complete = 0; count = 0; room = room; state = image (saved (inside f)) }
told room (t, whole m) = record { number = 0; taken = t; complete = 1; count = length m; room = patch room 0 m; state = image (saved (whole m)) }
told room (t, wrong n) = record { number = n; taken = t; complete = 0; count = 0; room = room; state = image (saved (wrong n)) }

-- a call, judged in this order: a short room; "21 .. a saved state no stream leaves", "which stays as it is"; the octets of the chunk, of which an ended
-- stream takes none and repeats its number
unfoldable pub taking : (state chunk room : List ℕ) → ConsoleOutcome
taking state chunk room =
    cond (ltb (length room) most_octets) (refused room_short room state)
    (cond (is_left state) (told room (run chunk (resumed (saved_of state)))) (refused header_wrong room state))

-- "until the host resets it": a fresh state, whatever it held
abbrev pub resetting : (state : List ℕ) → ℕ × List ℕ
resetting state = cond (eqb (length state) state_size) (0, zeros state_size) (header_wrong, state)
