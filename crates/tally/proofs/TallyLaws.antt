-- What the pass finds is what the definitions say. Assumes nothing.
use mathlib.Core.Path.{◌≡◌, refl, sym, ap, ◌∙◌}
use Prim.Native.Nat.{ℕ, ◌≤◌}
use mathlib.Core.Bool.{Bool, true, false, cond}
use mathlib.Core.List.{List, map}
use lib.Dec.{eqb}
use lib.ListN.{length}
use borrow.Author.Tests.{lt-ltb}
use Rattle.std.specs.Prelude.{Option, is_some, option_map}
use Rattle.std.specs.Bool.{then_some}
use Rattle.tally.specs.declared.RbCase.{RbCase}
use Rattle.tally.specs.declared.refusals.Refused.{Refused}
use Rattle.tally.specs.declared.refusals.Refused.TheVariants.{Run, Ended, Unknown, Start, Verdict}
use Rattle.tally.specs.declared.steps.Found.{Found}
use Rattle.tally.specs.Codes.{event_start, accepted}
use Rattle.tally.specs.Refusals.{number_of}
use Rattle.tally.specs.Run.{count_if, some_if, has_id, running, legal_cases, mark_fits, legal_run, number, state_after, changed, became, feed, report, state_of}
use Rattle.tally.specs.Scan.{scanned, state_found, number_found, write_at, write_of, mark_of, report_of, at_write}
use Rattle.octets.proofs.BoolLaws.{by_bool, left-of}
use Rattle.tally.proofs.CaseLaws.{first_if, first-within, change-none, change-first, ascending-once, legal-parts}
use Rattle.tally.proofs.ScanLaws.{good-so, runner-so, found-so, counts-so}
use Rattle.tally.proofs.NumberLaws.{unlisted, taken}

some-so : {A : Type 0} (b : Bool) (x : A) → is_some (then_some b x) ≡ b
some-so true x = refl
some-so false x = refl

runs_so : (id : ℕ) (cs : List RbCase) → is_some (scanned id cs).runner ≡ some_if running cs
runs_so id cs = ap (λ (o : Option ℕ). is_some o) (runner-so id cs) ∙ some-so (some_if running cs) (first_if running cs)

pub reported-so : (sought : ℕ) (cs : List RbCase) (m : ℕ) → report_of (scanned sought cs) m ≡ report cs m
unfolding report legal_run
reported-so sought cs m =
    by_bool (legal_cases cs) (λ t. rw (good-so sought cs, runs_so sought cs, t, counts-so sought cs 0 (legal-parts cs t).short)) (λ t. rw (good-so sought cs, t))

-- writing one record is changing all for which the test holds, where there is one at most
write-so : (p : RbCase → Bool) (state : ℕ) (cs : List RbCase) → count_if p cs ≤ 1 → at_write (option_map (write_at state) (then_some (some_if p cs) (first_if p cs))) cs ≡ map (changed p state) cs
write-so p state cs h =
    by_bool (some_if p cs) (λ t. rw (t, lt-ltb (first_if p cs) (length cs) (first-within p cs t)) (change-first p state cs h t)) (λ t. rw t (sym (change-none p state cs t)))

-- an event is accepted or has a number of its own
pub refusal-counts : (r : Refused) → eqb (number_of r) accepted ≡ false
refusal-counts Run = refl
refusal-counts Ended = refl
refusal-counts Unknown = refl
refusal-counts Start = refl
refusal-counts Verdict = refl

state-of-found : (b : Bool) (place state : ℕ) → (b ≡ false → state ≡ 0) → state_found (then_some b (record { place = place; state = state })) ≡ state
state-of-found true place state h = refl
state-of-found false place state h = sym (h refl)

place-found : (b : Bool) (place state : ℕ) → option_map (λ (f : Found). f.place) (then_some b (record { place = place; state = state })) ≡ then_some b place
place-found true place state = refl
place-found false place state = refl

module _ (cs : List RbCase) (m event id : ℕ) where
  pub number-so : number_found (scanned id cs) m event ≡ number cs m event id
  unfolding number legal_run
  number-so =
      rw (good-so id cs, runs_so id cs, found-so id cs, some-so {A = Found} (some_if (has_id id) cs) (record { place = first_if (has_id id) cs; state = state_of id cs }), state-of-found (some_if (has_id id) cs) (first_if (has_id id) cs) (state_of id cs) (unlisted id cs))

  pub mark-so : mark_of (scanned id cs) m event ≡ (feed cs m event id).mark
  mark-so = rw number-so

  -- of an accepted event, by whether it is a start
  write-it : (start : Bool) → legal_cases cs ≡ true
      → at_write (option_map (write_at (state_after event)) (cond start (option_map (λ f. f.place) (scanned id cs).found) (scanned id cs).runner)) cs ≡ map (changed (λ c. cond start (has_id id c) (running c)) (state_after event)) cs
  write-it true ok = rw (found-so id cs, place-found (some_if (has_id id) cs) (first_if (has_id id) cs) (state_of id cs)) (write-so (has_id id) (state_after event) cs (ascending-once id cs (legal-parts cs ok).order))
  write-it false ok = rw (runner-so id cs) (write-so running (state_after event) cs (legal-parts cs ok).single)

  -- an accepted event writes what it changes
  pub cases-so : accepted ≡ number cs m event id → at_write (write_of (scanned id cs) event) cs ≡ (feed cs m event id).cases
  unfolding became legal_run
  cases-so e =
      let t : eqb (number cs m event id) 0 ≡ true = rw (← e) in
      let a = taken cs m event id t in
      rw t (write-it (eqb event event_start) (left-of (legal_cases cs) (mark_fits m (some_if running cs)) a.is-legal))

  -- a refused one writes nothing
  pub cases-stay : (r : Refused) → number_of r ≡ number cs m event id → cs ≡ (feed cs m event id).cases
  cases-stay r e = rw (← e, refusal-counts r)
