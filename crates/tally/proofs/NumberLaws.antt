-- The number of an event. Assumes nothing.
use mathlib.Core.Path.{◌≡◌, refl}
use Prim.Native.Nat.{ℕ, ◌<◌}
use native.Mathlib.Omega.{arith}
use mathlib.Core.Bool.{Bool, true, false, cond, not}
use mathlib.Core.List.{List, [], ◌∷◌}
use lib.Dec.{eqb}
use borrow.Author.Tests.{eqb-true, not-false}
use Rattle.tally.specs.declared.RbCase.{RbCase}
use Rattle.tally.specs.Codes.{state_not_run, event_start, mark_set, refused_unknown, refused_start, refused_verdict, refused_ended, refused_run}
use Rattle.tally.specs.Run.{some_if, has_id, running, legal_run, event_judged, unknown, not_startable, none_running, state_of, number}
use Rattle.octets.proofs.BoolLaws.{by_bool, not-both-ways}

-- a case that is not listed counts as not run
pub unlisted : (id : ℕ) (cs : List RbCase) → some_if (has_id id) cs ≡ false → state_of id cs ≡ state_not_run
unfolding some_if state_of
unlisted id [] e = refl
unlisted id (c ∷ cs) e = by_bool (has_id id c) (λ t. not-both-ways refl (rw t at e)) (λ t. rw t (unlisted id cs (rw t at e)))

-- an accepted event has none of the faults
pub record Accepted (ok : Bool) (m event : ℕ) (listed runs : Bool) (state : ℕ) : Type 0 where
  pub is-legal : ok ≡ true
  pub unended : eqb m mark_set ≡ false
  pub is_known : unknown event listed ≡ false
  pub startable : not_startable event runs state ≡ false
  pub one-runs : none_running event runs state ≡ false

passes : (t : Bool) (k x : ℕ) → 0 < k → cond t k x ≡ 0 → (t ≡ false) × (x ≡ 0)
passes true k x h e = absurd (omega arith)
passes false k x h e = (refl, e)

pub accepted : (ok : Bool) (m event : ℕ) (listed runs : Bool) (state : ℕ) → event_judged ok m event listed runs state ≡ 0 → Accepted ok m event listed runs state
unfolding event_judged
accepted ok m event listed runs state e =
    let a = passes (not ok) refused_run _ (omega arith) e in
    let b = passes (eqb m mark_set) refused_ended _ (omega arith) a.1 in
    let c = passes (unknown event listed) refused_unknown _ (omega arith) b.1 in
    let d = passes (not_startable event runs state) refused_start _ (omega arith) c.1 in
    let f = passes (none_running event runs state) refused_verdict _ (omega arith) d.1 in
    record { is-legal = not-false ok a.0; unended = b.0; is_known = c.0; startable = d.0; one-runs = f.0 }

-- a start names a listed case
pub start-listed : (event : ℕ) (listed : Bool) → eqb event event_start ≡ true → unknown event listed ≡ false → listed ≡ true
unfolding unknown
start-listed event listed t e = not-false listed (rw (eqb-true event event_start t) at e)

module _ (cs : List RbCase) (m event id : ℕ) where
  abbrev pub Taken : Type 0
  Taken = Accepted (legal_run cs m) m event (some_if (has_id id) cs) (some_if running cs) (state_of id cs)

  pub taken : eqb (number cs m event id) 0 ≡ true → Taken
  unfolding number
  taken t = accepted (legal_run cs m) m event (some_if (has_id id) cs) (some_if running cs) (state_of id cs) (eqb-true (number cs m event id) 0 t)
