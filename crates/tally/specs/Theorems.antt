-- What is proved of runs, for readers: `proofs/Theorems.antt` proves each statement. Assumes nothing.
use Rattle.std.specs.Prelude.{◌≡◌, true, false, cond, List, map, ℕ, ◌+◌, ◌<◌, ◌≤◌, eqb, length, get_or}
use Rattle.tally.specs.declared.RbCase.{RbCase}
use Rattle.tally.specs.declared.judge.RbReport.{RbReport}
use Rattle.tally.specs.Codes.{most_cases, event_start, event_pass, event_end, mark_set, refused_ended}
use Rattle.tally.specs.Run.{ascending, running, is_passed, is_failed, is_broken, is_not_run, number, counted, report}
use Rattle.tally.specs.Scan.{none}
use Rattle.tally.specs.History.{Run, Event, is_legal, accepts, fed, after, new_run, accepted_of, names, closes, as_told, as_told_from, some_event}

-- the report on a run, a case of a run by its place, and the start of that case
abbrev pub report_on : Run → RbReport
report_on r = report r.cases r.mark

abbrev pub case_at : Run → ℕ → RbCase
case_at r i = get_or r.cases i none

abbrev pub start_event : Run → ℕ → Event
start_event r i = record { kind = event_start; id = (case_at r i).id }

-- in how many of the four classes a case is
abbrev pub classes : RbCase → ℕ
classes c = cond (is_passed c) 1 0 + cond (is_failed c) 1 0 + cond (is_broken c) 1 0 + cond (is_not_run c) 1 0

-- ---- which runs are legal
-- A new run over a list that is short enough and ascending is legal.
abbrev pub NewLegal : Type 0
NewLegal = (cs : List RbCase) → length cs ≤ most_cases → ascending cs ≡ true → is_legal (new_run cs) ≡ true

-- Events lead from a legal run to legal runs only.
abbrev pub LegalStays : Type 0
LegalStays = (r : Run) (es : List Event) → is_legal r ≡ true → is_legal (after r es) ≡ true

-- 15 refuses nothing else than "a state no events lead to": some events lead from the new run to any legal run over its ids.
abbrev pub LegalReached : Type 0
LegalReached = (r : Run) → is_legal r ≡ true → (es : List Event) × (after (new_run r.cases) es ≡ r)

-- ---- "After any events .. each listed case is in exactly one class as its accepted events say"
-- From a new run: every case is as the accepted events say of it.
abbrev pub AsTold : Type 0
AsTold = (cs : List RbCase) (es : List Event) → length cs ≤ most_cases → ascending cs ≡ true → (after (new_run cs) es).cases ≡ map (as_told (accepted_of (new_run cs) es)) cs

-- From any legal run: the same, from the state that the case had.
abbrev pub AsToldFrom : Type 0
AsToldFrom = (r : Run) (es : List Event) → is_legal r ≡ true → (after r es).cases ≡ map (as_told_from (accepted_of r es)) r.cases

-- The report counts what the accepted events say, and nothing else.
abbrev pub ReportTold : Type 0
ReportTold = (cs : List RbCase) (es : List Event) → length cs ≤ most_cases → ascending cs ≡ true → report_on (after (new_run cs) es) ≡ counted (map (as_told (accepted_of (new_run cs) es)) cs)

-- "in exactly one class".
abbrev pub OneClass : Type 0
OneClass = (r : Run) (es : List Event) (i : ℕ) → is_legal r ≡ true → i < length r.cases → classes (case_at (after r es) i) ≡ 1

-- "and the four add up to the length of the list".
abbrev pub SumIsLength : Type 0
SumIsLength =
    (r : Run) (es : List Event) → is_legal r ≡ true
    → (report_on (after r es)).passed + (report_on (after r es)).failed + (report_on (after r es)).broken + (report_on (after r es)).not_run ≡ length r.cases

-- ---- a case never started is no pass
-- "a case never started stays not run": with no accepted start, a case that is not run stays in the class not run, and is not in the class passed.
abbrev pub NeverStarted : Type 0
NeverStarted =
    (r : Run) (es : List Event) (i : ℕ) → is_legal r ≡ true → i < length r.cases → is_not_run (case_at r i) ≡ true
    → some_event (names event_start (case_at r i).id) (accepted_of r es) ≡ false → (is_not_run (case_at (after r es) i) ≡ true) × (is_passed (case_at (after r es) i) ≡ false)

-- A pass was started and passed: of a case that was not run and is in the class passed, a start and a pass were accepted.
abbrev pub PassedWasStarted : Type 0
PassedWasStarted =
    (r : Run) (es : List Event) (i : ℕ) → is_legal r ≡ true → i < length r.cases → is_not_run (case_at r i) ≡ true → is_passed (case_at (after r es) i) ≡ true
    → (some_event (names event_start (case_at r i).id) (accepted_of r es) ≡ true) × (some_event (names event_pass (case_at r i).id) (accepted_of r es) ≡ true)

-- ---- "until then a running case counts as broken"
-- A running case is in the class broken and in no other.
abbrev pub RunningIsBroken : Type 0
RunningIsBroken = (c : RbCase) → running c ≡ true → (is_broken c ≡ true) × (is_passed c ≡ false) × (is_failed c ≡ false) × (is_not_run c ≡ false)

-- From an accepted start on, and as long as no verdict of this case, no crash and no end is accepted, a case runs, and so counts as broken.
abbrev pub BrokenUntilVerdict : Type 0
BrokenUntilVerdict =
    (r : Run) (es : List Event) (i : ℕ) → i < length r.cases → accepts r (start_event r i) ≡ true → some_event (closes (case_at r i).id) (accepted_of (fed r (start_event r i)) es) ≡ false
    → (running (case_at (after (fed r (start_event r i)) es) i) ≡ true) × (is_broken (case_at (after (fed r (start_event r i)) es) i) ≡ true)

-- ---- what stays
-- A refused event: "nothing changed".
abbrev pub RefusedKeeps : Type 0
RefusedKeeps = (r : Run) (e : Event) → accepts r e ≡ false → fed r e ≡ r

-- The mark is set where an end was accepted.
abbrev pub MarkTold : Type 0
MarkTold = (r : Run) (es : List Event) → (after r es).mark ≡ cond (some_event (λ e. eqb e.kind event_end) (accepted_of r es)) mark_set r.mark

-- After end nothing changes, and every event on the legal run is 14: "any event after end".
abbrev pub AfterEnd : Type 0
AfterEnd = (r : Run) (es : List Event) → r.mark ≡ mark_set → (after r es ≡ r) × ((e : Event) → is_legal r ≡ true → number r.cases r.mark e.kind e.id ≡ refused_ended)

-- Ids never change, and none comes or goes, legal or not.
abbrev pub IdsStay : Type 0
IdsStay = (r : Run) (es : List Event) → map (λ c. c.id) (after r es).cases ≡ map (λ c. c.id) r.cases
