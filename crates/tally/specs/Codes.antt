-- E1: the longest list, and the numbers of states, events and refusals, as include/refbridge.h has them. Assumes nothing.
use Rattle.std.specs.Prelude.{ℕ}

-- "up to 65,535"
abbrev pub most_cases : ℕ
most_cases = 65535

-- ---- the state of a case
abbrev pub state_not_run : ℕ
state_not_run = 0

abbrev pub state_running : ℕ
state_running = 1

abbrev pub state_passed : ℕ
state_passed = 2

abbrev pub state_failed : ℕ
state_failed = 3

abbrev pub state_broken : ℕ
state_broken = 4

-- ---- "events: start, pass, fail, crash, end". Start, pass and fail have the numbers of the states that they give
abbrev pub event_start : ℕ
event_start = 1

abbrev pub event_pass : ℕ
event_pass = 2

abbrev pub event_fail : ℕ
event_fail = 3

abbrev pub event_crash : ℕ
event_crash = 4

abbrev pub event_end : ℕ
event_end = 5

-- ---- the mark for ended
abbrev pub mark_clear : ℕ
mark_clear = 0

abbrev pub mark_set : ℕ
mark_set = 1

-- ---- numbers of refusals; an event that is accepted has the number 0
abbrev pub accepted : ℕ
accepted = 0

abbrev pub refused_unknown : ℕ
refused_unknown = 11

abbrev pub refused_start : ℕ
refused_start = 12

abbrev pub refused_verdict : ℕ
refused_verdict = 13

abbrev pub refused_ended : ℕ
refused_ended = 14

abbrev pub refused_run : ℕ
refused_run = 15
