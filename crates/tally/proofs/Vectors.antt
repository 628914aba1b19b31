-- Runs played on the definitions. Assumes nothing.
use mathlib.Core.Path.{◌≡◌, refl}
use Prim.Native.Nat.{ℕ}
use mathlib.Core.List.{List, [], ◌∷◌}
use Rattle.tally.specs.declared.RbCase.{RbCase}
use Rattle.tally.specs.Codes.{state_not_run, state_running, state_passed, state_failed, state_broken, event_start, event_pass, event_fail, event_crash, event_end, mark_clear, mark_set}
use Rattle.octets.specs.Lists.{every}
use Rattle.tally.specs.Run.{count_if, some_if, above, ascending, legal_cases, mark_fits, legal_run, unknown, not_startable, none_running, event_judged, state_of, number, state_after, became, mark_after, report}
use Rattle.tally.specs.History.{Run, Event, after, accepted_of}

abbrev case : ℕ → ℕ → RbCase
case id state = record { id = id; state = state }

abbrev not_run : ℕ → RbCase
not_run id = case id state_not_run

abbrev start : ℕ → Event
start id = record { kind = event_start; id = id }

abbrev pass : ℕ → Event
pass id = record { kind = event_pass; id = id }

abbrev fail : ℕ → Event
fail id = record { kind = event_fail; id = id }

abbrev end_of : Event
end_of = record { kind = event_end; id = 0 }

-- three cases: one passes, one runs at the end, one is never started; a verdict for another case (13) and an event after the end (14) change nothing
abbrev played : List Event
played = start 7 ∷ pass 7 ∷ start 9 ∷ fail 7 ∷ end_of ∷ start 11 ∷ []

abbrev begun : Run
begun = record { cases = not_run 7 ∷ not_run 9 ∷ not_run 11 ∷ []; mark = mark_clear }

played-run : after begun played ≡ record { cases = case 7 state_passed ∷ case 9 state_broken ∷ not_run 11 ∷ []; mark = mark_set }
unfolding after count_if some_if every above ascending legal_cases mark_fits legal_run unknown not_startable none_running event_judged state_of number state_after became mark_after
played-run = refl

played-accepted : accepted_of begun played ≡ start 7 ∷ pass 7 ∷ start 9 ∷ end_of ∷ []
unfolding accepted_of count_if some_if every above ascending legal_cases mark_fits legal_run unknown not_startable none_running event_judged state_of number state_after became mark_after
played-accepted = refl

-- a running case counts as broken
running-broken : report (case 7 state_failed ∷ case 9 state_running ∷ not_run 11 ∷ []) mark_clear ≡ record { number = 0; passed = 0; failed = 1; broken = 1; not_run = 1 }
unfolding report count_if some_if every above ascending legal_cases mark_fits legal_run
running-broken = refl

-- 15: two running; one running with the mark set; ids that are equal; a state that is not known; a mark that is neither clear nor set. An empty list is legal
abbrev lists : List ℕ
lists =
    number (case 7 state_running ∷ case 9 state_running ∷ []) mark_clear event_end 0 ∷ number (case 7 state_running ∷ []) mark_set event_end 0 ∷ number (not_run 7 ∷ not_run 7 ∷ []) mark_clear event_end 0
    ∷ number (case 7 5 ∷ []) mark_clear event_end 0 ∷ number (not_run 7 ∷ []) 2 event_end 0 ∷ number [] mark_clear event_end 0 ∷ []

-- 11 to 14: an unknown event, an unknown id with none running, a start while one runs, a crash with none running, an unknown event after the end
abbrev events : List ℕ
events =
    number (not_run 7 ∷ []) mark_clear 6 7 ∷ number (not_run 7 ∷ []) mark_clear event_pass 8 ∷ number (case 7 state_running ∷ not_run 9 ∷ []) mark_clear event_start 9
    ∷ number (case 7 state_passed ∷ []) mark_clear event_crash 7 ∷ number (case 7 state_passed ∷ []) mark_set 6 7 ∷ []

lists-judged : lists ≡ 15 ∷ 15 ∷ 15 ∷ 15 ∷ 15 ∷ 0 ∷ []
unfolding count_if some_if every above ascending legal_cases mark_fits legal_run unknown not_startable none_running event_judged state_of number
lists-judged = refl

events-judged : events ≡ 11 ∷ 11 ∷ 12 ∷ 13 ∷ 14 ∷ []
unfolding count_if some_if every above ascending legal_cases mark_fits legal_run unknown not_startable none_running event_judged state_of number
events-judged = refl
