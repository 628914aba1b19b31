-- E1, the run tally: a run is a list of case records and a mark for ended; an event leads from a run to a run. Assumes nothing.
use Rattle.std.specs.Prelude.{ℕ, suc, Bool, true, false, cond, not, ◌&&◌, ◌||◌, List, [], ◌∷◌, map, eqb, leb, ltb, length}
use Rattle.octets.specs.Lists.{every}
use Rattle.tally.specs.declared.RbCase.{RbCase}
use Rattle.tally.specs.declared.judge.RbReport.{RbReport}
use Rattle.tally.specs.Codes.{most_cases, state_not_run, state_running, state_passed, state_failed, state_broken, event_start, event_pass, event_fail, event_crash, event_end, mark_clear, mark_set, accepted, refused_unknown, refused_start, refused_verdict, refused_ended, refused_run}

-- ---- lists of cases, by a test
unfoldable pub count_if : (RbCase → Bool) → List RbCase → ℕ
count_if p [] = 0
count_if p (c ∷ cs) = cond (p c) (suc (count_if p cs)) (count_if p cs)

unfoldable pub some_if : (RbCase → Bool) → List RbCase → Bool
some_if p [] = false
some_if p (c ∷ cs) = p c || some_if p cs

-- ---- a case
abbrev pub has_id : ℕ → RbCase → Bool
has_id id c = eqb c.id id

abbrev pub running : RbCase → Bool
running c = eqb c.state state_running

abbrev pub known : RbCase → Bool
known c = leb c.state state_broken

-- the four classes: "until then a running case counts as broken; a case never started stays not run"
abbrev pub is_passed : RbCase → Bool
is_passed c = eqb c.state state_passed

abbrev pub is_failed : RbCase → Bool
is_failed c = eqb c.state state_failed

abbrev pub is_broken : RbCase → Bool
is_broken c = eqb c.state state_running || eqb c.state state_broken

abbrev pub is_not_run : RbCase → Bool
is_not_run c = eqb c.state state_not_run

-- ---- 15: "list too long, not ascending, or in a state no events lead to"
-- every id is above the one before it, the first one above n
unfoldable pub above : ℕ → List RbCase → Bool
above n [] = true
above n (c ∷ cs) = ltb n c.id && above c.id cs

-- "ids strictly ascending"
unfoldable pub ascending : List RbCase → Bool
ascending [] = true
ascending (c ∷ cs) = above c.id cs

-- "up to 65,535"; "one case runs at a time"
unfoldable pub legal_cases : List RbCase → Bool
legal_cases cs = (leb (length cs) most_cases && ascending cs) && (every known cs && leb (count_if running cs) 1)

-- the mark is clear, or it is set and none runs, since end closes the running case
unfoldable pub mark_fits : ℕ → Bool → Bool
mark_fits m runs = eqb m mark_clear || (eqb m mark_set && not runs)

-- LegalReached (Theorems) says that these are the runs that events lead to
unfoldable pub legal_run : List RbCase → ℕ → Bool
legal_run cs m = legal_cases cs && mark_fits m (some_if running cs)

-- ---- the number of an event. What it asks of the run: whether the id is listed, whether one runs, and the state of the case with that id
-- 11 "unknown event or id"; "crash and end name no case"
unfoldable pub unknown : ℕ → Bool → Bool
unknown event listed = not (leb event_start event && leb event event_end) || (leb event event_fail && not listed)

-- 12 "start of a case already started, or while one runs"
unfoldable pub not_startable : ℕ → Bool → ℕ → Bool
not_startable event runs state = eqb event event_start && (not (eqb state state_not_run) || runs)

-- 13 "verdict or crash with none running, or verdict for another case"
unfoldable pub none_running : ℕ → Bool → ℕ → Bool
none_running event runs state = (leb event_pass event && leb event event_crash) && (not runs || (leb event event_fail && not (eqb state state_running)))

-- "judged 15, 14, 11, 12, 13"
unfoldable pub event_judged : Bool → ℕ → ℕ → Bool → Bool → ℕ → ℕ
event_judged ok m event listed runs state =
    cond (not ok) refused_run (cond (eqb m mark_set) refused_ended (cond (unknown event listed) refused_unknown (cond (not_startable event runs state) refused_start (cond (none_running event runs state) refused_verdict accepted))))

-- the state of the case with this id; not run where it is not listed
unfoldable pub state_of : ℕ → List RbCase → ℕ
state_of id [] = state_not_run
state_of id (c ∷ cs) = cond (has_id id c) c.state (state_of id cs)

unfoldable pub number : List RbCase → ℕ → ℕ → ℕ → ℕ
number cs m event id = event_judged (legal_run cs m) m event (some_if (has_id id) cs) (some_if running cs) (state_of id cs)

-- ---- what an accepted event does: a start is of the case with its id, every other event of the case that runs
abbrev pub touches : ℕ → ℕ → RbCase → Bool
touches event id c = cond (eqb event event_start) (has_id id c) (running c)

-- "a verdict closes it; crash or end closes it as broken"
unfoldable pub state_after : ℕ → ℕ
state_after event = cond (leb event event_fail) event state_broken

abbrev pub restated : ℕ → RbCase → RbCase
restated state c = record { id = c.id; state = state }

abbrev pub changed : (RbCase → Bool) → ℕ → RbCase → RbCase
changed p state c = cond (p c) (restated state c) c

unfoldable pub became : ℕ → ℕ → RbCase → RbCase
became event id = changed (touches event id) (state_after event)

unfoldable pub mark_after : ℕ → ℕ → ℕ
mark_after event m = cond (eqb event event_end) mark_set m

-- number, cases and mark after an event; a refusal: "nothing changed"
pub record Fed : Type 0 where
  pub number : ℕ
  pub cases : List RbCase
  pub mark : ℕ

abbrev pub feed : List RbCase → ℕ → ℕ → ℕ → Fed
feed cs m event id = record {
  number = number cs m event id;
  cases = cond (eqb (number cs m event id) accepted) (map (became event id) cs) cs;
  mark = cond (eqb (number cs m event id) accepted) (mark_after event m) m;
}

-- ---- "The report gives passed, failed, broken and not run"; it "refuses only with 15, giving zeros"
abbrev pub counted : List RbCase → RbReport
counted cs = record { number = accepted; passed = count_if is_passed cs; failed = count_if is_failed cs; broken = count_if is_broken cs; not_run = count_if is_not_run cs }

abbrev pub zero_report : RbReport
zero_report = record { number = refused_run; passed = 0; failed = 0; broken = 0; not_run = 0 }

unfoldable pub report : List RbCase → ℕ → RbReport
report cs m = cond (legal_run cs m) (counted cs) zero_report
