-- What one pass over the list keeps, and what an event and a report make of it: the code's way to `feed` and `report`. Assumes nothing.
use Rattle.std.specs.Prelude.{ℕ, suc, ◌+◌, Bool, true, cond, not, ◌&&◌, List, [], ◌∷◌, eqb, ltb, length, get_or, set, Option, None, Some, is_some, option_map}
use Rattle.std.specs.Bool.{then_some}
use Rattle.std.specs.Option.{option_or}
use Rattle.tally.specs.declared.RbCase.{RbCase}
use Rattle.tally.specs.declared.steps.Found.{Found}
use Rattle.tally.specs.declared.steps.Scan.{Scan}
use Rattle.tally.specs.declared.judge.Write.{Write}
use Rattle.tally.specs.declared.judge.RbReport.{RbReport}
use Rattle.tally.specs.Codes.{most_cases, state_not_run, event_start, accepted}
use Rattle.tally.specs.Run.{has_id, running, known, is_passed, is_failed, is_broken, is_not_run, event_judged, mark_fits, state_after, mark_after, restated, zero_report}

abbrev pub fresh : Scan
fresh = record { good = true; last = None; runner = None; found = None; passed = 0; failed = 0; broken = 0; not_run = 0 }

-- one more where it is so, up to the longest list
abbrev pub more : Bool → ℕ → ℕ
more hit n = cond (hit && ltb n most_cases) (n + 1) n

-- whether an id may stand after the one before it
abbrev pub follows : Option ℕ → ℕ → Bool
follows None id = true
follows (Some last) id = ltb last id

-- whether a record may stand at this place, after one with the id `last`, where another runs or not
abbrev pub sound_at : Option ℕ → Bool → ℕ → RbCase → Bool
sound_at last runs at c = (ltb at most_cases && follows last c.id) && (known c && not (runs && running c))

abbrev pub step_of : ℕ → Scan → ℕ → RbCase → Scan
step_of sought s at c = record {
  good = s.good && sound_at s.last (is_some s.runner) at c;
  last = Some c.id;
  runner = option_or s.runner (then_some (running c) at);
  found = option_or s.found (then_some (has_id sought c) (record { place = at; state = c.state }));
  passed = more (is_passed c) s.passed;
  failed = more (is_failed c) s.failed;
  broken = more (is_broken c) s.broken;
  not_run = more (is_not_run c) s.not_run;
}

-- the pass, from a place on
unfoldable pub scan_from : ℕ → ℕ → Scan → List RbCase → Scan
scan_from sought at s [] = s
scan_from sought at s (c ∷ cs) = scan_from sought (suc at) (step_of sought s at c) cs

abbrev pub scanned : ℕ → List RbCase → Scan
scanned sought cs = scan_from sought 0 fresh cs

abbrev pub legal_of : Scan → ℕ → Bool
legal_of s m = s.good && mark_fits m (is_some s.runner)

-- the state of the case that was asked for; not run where it is not listed
abbrev pub state_found : Option Found → ℕ
state_found None = state_not_run
state_found (Some f) = f.state

abbrev pub number_found : Scan → ℕ → ℕ → ℕ
number_found s m event = event_judged (legal_of s m) m event (is_some s.found) (is_some s.runner) (state_found s.found)

-- where an accepted event writes: a start where its id stands, the others where the running case stands
abbrev pub place_of : Scan → ℕ → Option ℕ
place_of s event = cond (eqb event event_start) (option_map (λ f. f.place) s.found) s.runner

-- which record gets which state, if one does
abbrev pub write_at : ℕ → ℕ → Write
write_at state at = record { at = at; state = state }

abbrev pub write_of : Scan → ℕ → Option Write
write_of s event = option_map (write_at (state_after event)) (place_of s event)

abbrev pub mark_of : Scan → ℕ → ℕ → ℕ
mark_of s m event = cond (eqb (number_found s m event) accepted) (mark_after event m) m

abbrev pub report_of : Scan → ℕ → RbReport
report_of s m = cond (legal_of s m) (record { number = accepted; passed = s.passed; failed = s.failed; broken = s.broken; not_run = s.not_run }) zero_report

-- what a place past the end of the list reads as
abbrev pub none : RbCase
none = record { id = 0; state = state_not_run }

-- the list with another state at a place, where that is asked for and there is such a place
abbrev pub at_write : Option Write → List RbCase → List RbCase
at_write None cs = cs
at_write (Some w) cs = cond (ltb w.at (length cs)) (set cs w.at (restated w.state (get_or cs w.at none))) cs
