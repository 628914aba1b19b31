-- E1: a run fed with any events, and what the accepted ones say of a case, told from the events alone, without any state kept. Assumes nothing.
use Rattle.std.specs.Prelude.{ℕ, Bool, false, cond, ◌&&◌, ◌||◌, List, [], ◌∷◌, map, eqb}
use Rattle.tally.specs.declared.RbCase.{RbCase}
use Rattle.tally.specs.Codes.{state_not_run, state_running, state_passed, state_failed, state_broken, event_start, event_pass, event_fail, event_crash, event_end, mark_clear, accepted}
use Rattle.tally.specs.Run.{legal_run, number, feed, restated}

pub record Run : Type 0 where
  pub cases : List RbCase
  pub mark : ℕ

pub record Event : Type 0 where
  pub kind : ℕ
  pub id : ℕ

abbrev pub is_legal : Run → Bool
is_legal r = legal_run r.cases r.mark

abbrev pub accepts : Run → Event → Bool
accepts r e = eqb (number r.cases r.mark e.kind e.id) accepted

-- the run after one event, and after any
abbrev pub fed : Run → Event → Run
fed r e = record { cases = (feed r.cases r.mark e.kind e.id).cases; mark = (feed r.cases r.mark e.kind e.id).mark }

unfoldable pub after : Run → List Event → Run
after r [] = r
after r (e ∷ es) = after (fed r e) es

-- a new run over the ids of a list: "none run at first", and the mark clear
abbrev pub new_run : List RbCase → Run
new_run cs = record { cases = map (restated state_not_run) cs; mark = mark_clear }

-- those of the events that were accepted
unfoldable pub accepted_of : Run → List Event → List Event
accepted_of r [] = []
accepted_of r (e ∷ es) = cond (accepts r e) (e ∷ accepted_of (fed r e) es) (accepted_of (fed r e) es)

-- ---- what accepted events say of the case with an id
abbrev pub names : ℕ → ℕ → Event → Bool
names kind id e = eqb e.kind kind && eqb e.id id

abbrev pub breaks : Event → Bool
breaks e = eqb e.kind event_crash || eqb e.kind event_end

abbrev pub closes : ℕ → Event → Bool
closes id e = names event_pass id e || (names event_fail id e || breaks e)

-- once started: "a verdict closes it; crash or end closes it as broken"; until then it runs
unfoldable pub closed_by : ℕ → List Event → ℕ
closed_by id [] = state_running
closed_by id (e ∷ es) = cond (names event_pass id e) state_passed (cond (names event_fail id e) state_failed (cond (breaks e) state_broken (closed_by id es)))

-- before it is started: what follows its start decides; "a case never started stays not run"
unfoldable pub told : ℕ → List Event → ℕ
told id [] = state_not_run
told id (e ∷ es) = cond (names event_start id e) (closed_by id es) (told id es)

abbrev pub as_told : List Event → RbCase → RbCase
as_told es c = restated (told c.id es) c

-- the same of a case that had a state before these events: one that runs may be closed, one that is closed stays so
unfoldable pub told_from : ℕ → ℕ → List Event → ℕ
told_from state id es = cond (eqb state state_not_run) (told id es) (cond (eqb state state_running) (closed_by id es) state)

abbrev pub as_told_from : List Event → RbCase → RbCase
as_told_from es c = restated (told_from c.state c.id es) c

-- whether a test holds of some of these events
unfoldable pub some_event : (Event → Bool) → List Event → Bool
some_event p [] = false
some_event p (e ∷ es) = p e || some_event p es
