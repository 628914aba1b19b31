-- The theorems of `specs/Theorems.antt`. Assumes nothing.
use mathlib.Core.Path.{◌≡◌, refl, sym, ◌∙◌, ap}
use Prim.Native.Nat.{ℕ, zero, suc, ◌+◌, ◌<◌, ◌≤◌}
use native.Mathlib.Omega.{arith}
use mathlib.Core.Bool.{Bool, true, false, cond, not, ◌&&◌, ◌||◌, or-true}
use mathlib.Core.List.{List, [], ◌∷◌, map}
use lib.Dec.{eqb}
use lib.ListN.{length, get_or, length-map}
use borrow.Author.Tests.{eqb-true, eqb-false, eq-eqb, leb-true, not-true}
use Rattle.tally.specs.declared.RbCase.{RbCase}
use Rattle.tally.specs.Codes.{state_not_run, state_running, state_passed, state_failed, state_broken, event_start, event_pass, event_fail, event_end, mark_clear, mark_set, refused_ended, refused_run}
use Rattle.octets.specs.Lists.{every}
use Rattle.tally.specs.Run.{count_if, known, is_passed, is_failed, is_broken, is_not_run, running, some_if, legal_cases, mark_fits, legal_run, restated, changed, touches, state_after, became, mark_after, event_judged, number, counted, report}
use Rattle.tally.specs.Scan.{none}
use Rattle.tally.specs.History.{Run, Event, is_legal, accepts, fed, after, new_run, accepted_of, names, breaks, closes, closed_by, told, as_told, told_from, as_told_from, some_event}
use Rattle.tally.specs.Theorems.{case_at, start_event, classes, NewLegal, LegalStays, LegalReached, AsTold, AsToldFrom, ReportTold, OneClass, SumIsLength, NeverStarted, PassedWasStarted, RunningIsBroken, BrokenUntilVerdict, RefusedKeeps, MarkTold, AfterEnd, IdsStay}
use Rattle.octets.proofs.ListLaws.{every_in}
use Rattle.octets.proofs.BoolLaws.{by_bool, left-of, right_of, not-both-ways}
use Rattle.tally.proofs.CaseLaws.{legal-parts, parts-legal}
use Rattle.tally.proofs.NumberLaws.{taken}
use Rattle.tally.proofs.HistoryLaws.{told-on, legal-on, changed-id}
use Rattle.tally.proofs.ReachLaws.{Reached, reach-open, reach-end, new-parts}

-- ---- one event
pub refused-keeps : RefusedKeeps
refused-keeps r e h = rw h

module _ (r : Run) (e : Event) where
  taken-cases : accepts r e ≡ true → (fed r e).cases ≡ map (became e.kind e.id) r.cases
  taken-cases t = rw t

  taken-mark : accepts r e ≡ true → (fed r e).mark ≡ mark_after e.kind r.mark
  taken-mark t = rw t

  legal-step : is_legal r ≡ true → is_legal (fed r e) ≡ true
  legal-step h =
      by_bool (accepts r e) (λ t. rw t (legal-on r.cases r.mark e.kind e.id (taken r.cases r.mark e.kind e.id t)))
      (λ t. ap is_legal (refused-keeps r e t) ∙ h)

  module _ (es : List Event) where
    taken-first : accepts r e ≡ true → accepted_of r (e ∷ es) ≡ e ∷ accepted_of (fed r e) es
    unfolding accepted_of
    taken-first t = ap (λ (b : Bool). cond b (e ∷ accepted_of (fed r e) es) (accepted_of (fed r e) es)) t

    left_out : accepts r e ≡ false → accepted_of r (e ∷ es) ≡ accepted_of (fed r e) es
    unfolding accepted_of
    left_out t = ap (λ (b : Bool). cond b (e ∷ accepted_of (fed r e) es) (accepted_of (fed r e) es)) t

-- ---- any events
pub legal-stays : LegalStays
unfolding after
legal-stays r [] h = h
legal-stays r (e ∷ es) h = legal-stays (fed r e) es (legal-step r e h)

pub new-legal : NewLegal
unfolding legal_run mark_fits
new-legal cs h o = rw (parts-legal (map (restated state_not_run) cs) (new-parts cs h o))

pub legal-reached : LegalReached
unfolding legal_run mark_fits Reached
legal-reached r h =
    let ok = left-of (legal_cases r.cases) (mark_fits r.mark (some_if running r.cases)) h in
    let fits = right_of (legal_cases r.cases) (mark_fits r.mark (some_if running r.cases)) h in
    by_bool (eqb r.mark mark_clear)
    (λ t. let q = reach-open r.cases ok in (q.0, q.1 ∙ ap (λ (n : ℕ). record { cases = r.cases; mark = n }) (sym (eqb-true r.mark mark_clear t))))
    (λ t. let e : eqb r.mark mark_set && not (some_if running r.cases) ≡ true = rw t at fits in
    let q = reach-end r.cases ok (not-true (some_if running r.cases) (right_of (eqb r.mark mark_set) (not (some_if running r.cases)) e)) in
    (q.0, q.1 ∙ ap (λ (n : ℕ). record { cases = r.cases; mark = n }) (sym (eqb-true r.mark mark_set (left-of (eqb r.mark mark_set) (not (some_if running r.cases)) e)))))

-- no event says nothing
told-nothing : (c : RbCase) → as_told_from [] c ≡ c
unfolding told_from told closed_by
told-nothing c =
    by_bool (eqb c.state state_not_run) (λ t. rw t (ap (λ (n : ℕ). record { id = c.id; state = n }) (sym (eqb-true c.state state_not_run t))))
    (λ t. by_bool (eqb c.state state_running) (λ s. rw (t, s) (ap (λ (n : ℕ). record { id = c.id; state = n }) (sym (eqb-true c.state state_running s)))) (λ s. rw (t, s)))

all_nothing : (cs : List RbCase) → map (as_told_from []) cs ≡ cs
all_nothing [] = refl
all_nothing (c ∷ cs) = rw (told-nothing c, all_nothing cs)

nothing_yet : (r : Run) → accepted_of r [] ≡ []
unfolding accepted_of
nothing_yet r = refl

pub as-told-from : AsToldFrom
unfolding after
as-told-from r [] h = sym (all_nothing r.cases) ∙ ap (λ (l : List Event). map (as_told_from l) r.cases) (sym (nothing_yet r))
as-told-from r (e ∷ es) h =
    let rest = as-told-from (fed r e) es (legal-step r e h) in
    by_bool (accepts r e)
    (λ t. rest ∙ ap (λ (l : List RbCase). map (as_told_from (accepted_of (fed r e) es)) l) (taken-cases r e t)
    ∙ told-on r.cases r.mark e.kind e.id (taken r.cases r.mark e.kind e.id t) (accepted_of (fed r e) es)
    ∙ ap (λ (l : List Event). map (as_told_from l) r.cases) (sym (taken-first r e es t)))
    (λ t. rest ∙ ap (λ (l : List RbCase). map (as_told_from (accepted_of (fed r e) es)) l) (ap (λ (q : Run). q.cases) (refused-keeps r e t))
    ∙ ap (λ (l : List Event). map (as_told_from l) r.cases) (sym (left_out r e es t)))

-- an end now, or one later
end-either : (now later : Bool) (m : ℕ) → cond later 1 (cond now 1 m) ≡ cond (now || later) 1 m
end-either true true m = refl
end-either true false m = refl
end-either false later m = refl

abbrev ended : List Event → Bool
ended es = some_event (λ e. eqb e.kind event_end) es

end-first : (e : Event) (es : List Event) (m : ℕ) → cond (ended es) 1 (mark_after e.kind m) ≡ cond (ended (e ∷ es)) 1 m
unfolding mark_after some_event
end-first e es m = end-either (eqb e.kind event_end) (ended es) m

none-ended : ended [] ≡ false
unfolding some_event
none-ended = refl

pub mark-told : MarkTold
unfolding after
mark-told r [] = rw (nothing_yet r, none-ended)
mark-told r (e ∷ es) =
    let acc = accepted_of (fed r e) es in
    let rest : (after (fed r e) es).mark ≡ cond (ended acc) 1 (fed r e).mark = mark-told (fed r e) es in
    by_bool (accepts r e)
    (λ t. rest ∙ ap (λ (n : ℕ). cond (ended acc) 1 n) (taken-mark r e t) ∙ end-first e acc r.mark ∙ ap (λ (l : List Event). cond (ended l) 1 r.mark) (sym (taken-first r e es t)))
    (λ t. rest ∙ ap (λ (q : Run). cond (ended acc) 1 q.mark) (refused-keeps r e t) ∙ ap (λ (l : List Event). cond (ended l) 1 r.mark) (sym (left_out r e es t)))

ids-changed : (p : RbCase → Bool) (state : ℕ) (cs : List RbCase) → map (λ c. c.id) (map (changed p state) cs) ≡ map (λ c. c.id) cs
ids-changed p state [] = refl
ids-changed p state (c ∷ cs) = rw (changed-id p state c, ids-changed p state cs)

ids-became : (event id : ℕ) (cs : List RbCase) → map (λ c. c.id) (map (became event id) cs) ≡ map (λ c. c.id) cs
unfolding became
ids-became event id cs = ids-changed (touches event id) (state_after event) cs

pub ids-stay : IdsStay
unfolding after
ids-stay r [] = refl
ids-stay r (e ∷ es) =
    ids-stay (fed r e) es
    ∙ by_bool (accepts r e) (λ t. ap (λ (l : List RbCase). map (λ c. c.id) l) (taken-cases r e t) ∙ ids-became e.kind e.id r.cases) (λ t. ap (λ (q : Run). map (λ c. c.id) q.cases) (refused-keeps r e t))

-- ---- the classes
legal-known : (r : Run) → is_legal r ≡ true → every known r.cases ≡ true
unfolding legal_run
legal-known r h = (legal-parts r.cases (left-of (legal_cases r.cases) (mark_fits r.mark (some_if running r.cases)) h)).knows

same_length : (r : Run) (es : List Event) → is_legal r ≡ true → length (after r es).cases ≡ length r.cases
same_length r es h = ap length (as-told-from r es h) ∙ length-map r.cases (as_told_from (accepted_of r es))

by_state : (P : ℕ → Type 0) → P state_not_run → P state_running → P state_passed → P state_failed → P state_broken → (s : ℕ) → s ≤ state_broken → P s
by_state P a b c d e s h =
    by_bool (eqb s state_not_run) (λ t. rw (eqb-true s state_not_run t) a) (λ t₀. by_bool (eqb s state_running) (λ t. rw (eqb-true s state_running t) b) (λ t₁. by_bool (eqb s state_passed) (λ t. rw (eqb-true s state_passed t) c) (λ t₂. by_bool (eqb s state_failed) (λ t. rw (eqb-true s state_failed t) d) (λ t₃.
    let l : s ≡ state_broken = omega (arith, eqb-false s state_not_run t₀, eqb-false s state_running t₁, eqb-false s state_passed t₂, eqb-false s state_failed t₃) in rw l e))))

known-class : (c : RbCase) → known c ≡ true → classes c ≡ 1
known-class c h =
    by_state (λ s. classes (record { id = c.id; state = s }) ≡ 1) refl refl refl refl refl c.state (leb-true c.state state_broken h)

counted-one : (p : RbCase → Bool) (c : RbCase) (cs : List RbCase) → count_if p (c ∷ cs) ≡ cond (p c) 1 0 + count_if p cs
unfolding count_if
counted-one p c cs = by_bool (p c) (λ t. rw t (omega arith)) (λ t. rw t (omega arith))

none-counted : (p : RbCase → Bool) → count_if p [] ≡ 0
unfolding count_if
none-counted p = refl

four-add : (cs : List RbCase) → every known cs ≡ true → count_if is_passed cs + count_if is_failed cs + count_if is_broken cs + count_if is_not_run cs ≡ length cs
unfolding every
four-add [] h = rw (none-counted is_passed, none-counted is_failed, none-counted is_broken, none-counted is_not_run)
four-add (c ∷ cs) h =
    omega (arith, four-add cs (right_of (known c) (every known cs) h), known-class c (left-of (known c) (every known cs) h), counted-one is_passed c cs, counted-one is_failed c cs, counted-one is_broken c cs, counted-one is_not_run c cs)

report-adds : (cs : List RbCase) (m : ℕ) → legal_run cs m ≡ true → (report cs m).passed + (report cs m).failed + (report cs m).broken + (report cs m).not_run ≡ length cs
unfolding report legal_run
report-adds cs m h = rw h (four-add cs (legal-known (record { cases = cs; mark = m }) h))

pub sum-is-length : SumIsLength
sum-is-length r es h = report-adds (after r es).cases (after r es).mark (legal-stays r es h) ∙ same_length r es h

-- ---- a case never started
mapped_at : (f : RbCase → RbCase) (cs : List RbCase) (i : ℕ) → i < length cs → get_or (map f cs) i none ≡ f (get_or cs i none)
mapped_at f [] i h = absurd (omega arith)
mapped_at f (c ∷ cs) zero h = refl
mapped_at f (c ∷ cs) (suc i) h = mapped_at f cs i (omega arith)

unstarted : (id : ℕ) (es : List Event) → some_event (names event_start id) es ≡ false → told id es ≡ 0
unfolding some_event told
unstarted id [] h = refl
unstarted id (e ∷ es) h = by_bool (names event_start id e) (λ t. not-both-ways refl (rw t at h)) (λ t. rw t (unstarted id es (rw t at h)))

-- the case at a place, as it is told
case-told : (r : Run) (es : List Event) (i : ℕ) → is_legal r ≡ true → i < length r.cases → case_at (after r es) i ≡ as_told_from (accepted_of r es) (case_at r i)
case-told r es i h within = ap (λ (l : List RbCase). get_or l i none) (as-told-from r es h) ∙ mapped_at (as_told_from (accepted_of r es)) r.cases i within

pub one_class : OneClass
one_class r es i h within =
    known-class (case_at (after r es) i) (every_in known none (after r es).cases i refl (legal-known (after r es) (legal-stays r es h)))

-- of a case that was not run the events tell from its start on
state-told : (r : Run) (es : List Event) (i : ℕ) → is_legal r ≡ true → i < length r.cases → is_not_run (case_at r i) ≡ true → (case_at (after r es) i).state ≡ told (case_at r i).id (accepted_of r es)
unfolding told_from
state-told r es i h within fresh = rw (case-told r es i h within, fresh)

pub never-started : NeverStarted
never-started r es i h within fresh none-started =
    let e = state-told r es i h within fresh ∙ unstarted (case_at r i).id (accepted_of r es) none-started in (rw e, rw e)

-- ---- from a new run
new_told : (es : List Event) (cs : List RbCase) → map (as_told_from es) (map (restated state_not_run) cs) ≡ map (as_told es) cs
unfolding told_from
new_told es [] = refl
new_told es (c ∷ cs) = ap (λ (l : List RbCase). as_told es c ∷ l) (new_told es cs)

pub as-told : AsTold
as-told cs es short order = as-told-from (new_run cs) es (new-legal cs short order) ∙ new_told (accepted_of (new_run cs) es) cs

report-counts : (cs : List RbCase) (m : ℕ) → legal_run cs m ≡ true → report cs m ≡ counted cs
unfolding report
report-counts cs m h = rw h

pub report-told : ReportTold
report-told cs es short order =
    let r = after (new_run cs) es in
    report-counts r.cases r.mark (legal-stays (new_run cs) es (new-legal cs short order)) ∙ ap counted (as-told cs es short order)

-- ---- a pass
closed-passed : (id : ℕ) (es : List Event) → closed_by id es ≡ state_passed → some_event (names event_pass id) es ≡ true
unfolding closed_by some_event
closed-passed id [] h = absurd (omega (arith, h))
closed-passed id (e ∷ es) h =
    by_bool (names event_pass id e) (λ t. rw t)
    (λ t. rw t (by_bool (names event_fail id e) (λ s. absurd (omega (arith, rw (t, s) at h)))
    (λ s. by_bool (breaks e) (λ u. absurd (omega (arith, rw (t, s, u) at h))) (λ u. closed-passed id es (rw (t, s, u) at h)))))

told-passed : (id : ℕ) (es : List Event) → told id es ≡ state_passed → some_event (names event_pass id) es ≡ true
unfolding told some_event
told-passed id [] h = absurd (omega (arith, h))
told-passed id (e ∷ es) h =
    by_bool (names event_start id e) (λ t. rw (closed-passed id es (rw t at h), or-true)) (λ t. rw (told-passed id es (rw t at h), or-true))

pub passed-was-started : PassedWasStarted
passed-was-started r es i h within fresh passed =
    let id = (case_at r i).id in
    let acc = accepted_of r es in
    let says : told id acc ≡ state_passed = sym (state-told r es i h within fresh) ∙ eqb-true (case_at (after r es) i).state state_passed passed in
    (by_bool (some_event (names event_start id) acc) (λ t. t) (λ t. absurd (omega (arith, sym (unstarted id acc t) ∙ says))), told-passed id acc says)

-- ---- a running case
pub running-is-broken : RunningIsBroken
running-is-broken c h = let e = eqb-true c.state state_running h in rw e (refl, refl, refl, refl)

unclosed : (id : ℕ) (es : List Event) → some_event (closes id) es ≡ false → closed_by id es ≡ state_running
unfolding some_event closed_by
unclosed id [] h = refl
unclosed id (e ∷ es) h =
    by_bool (names event_pass id e) (λ t. not-both-ways refl (rw t at h))
    (λ t. by_bool (names event_fail id e) (λ s. not-both-ways refl (rw (t, s) at h))
    (λ s. by_bool (breaks e) (λ u. not-both-ways refl (rw (t, s, u) at h)) (λ u. rw (t, s, u) (unclosed id es (rw (t, s, u) at h)))))

module _ (r : Run) (i : ℕ) (within : i < length r.cases) (begins : accepts r (start_event r i) ≡ true) where
  begun-within : i < length (fed r (start_event r i)).cases
  begun-within = rw (taken-cases r (start_event r i) begins, length-map r.cases (became event_start (case_at r i).id)) within

  begun-at : case_at (fed r (start_event r i)) i ≡ record { id = (case_at r i).id; state = state_running }
  unfolding became state_after
  begun-at =
      ap (λ (l : List RbCase). get_or l i none) (taken-cases r (start_event r i) begins) ∙ mapped_at (became event_start (case_at r i).id) r.cases i within
      ∙ rw (eq-eqb (case_at r i).id (case_at r i).id refl)

pub broken-until-verdict : BrokenUntilVerdict
unfolding told_from
broken-until-verdict r es i within begins unclosing =
    let id = (case_at r i).id in
    let begun = fed r (start_event r i) in
    let ok : is_legal r ≡ true = (taken r.cases r.mark event_start id begins).is-legal in
    let at : case_at (after begun es) i ≡ as_told_from (accepted_of begun es) (case_at begun i) = case-told begun es i (legal-step r (start_event r i) ok) (begun-within r i within begins) in
    let runs : (case_at (after begun es) i).state ≡ state_running = rw (at, begun-at r i within begins) (unclosed id (accepted_of begun es) unclosing) in
    (rw runs, rw runs)

-- ---- after the end
ended-number : (r : Run) (e : Event) → r.mark ≡ mark_set → is_legal r ≡ true → number r.cases r.mark e.kind e.id ≡ refused_ended
unfolding number event_judged
ended-number r e m h = rw (h, m)

unlawful : (r : Run) (e : Event) → is_legal r ≡ false → number r.cases r.mark e.kind e.id ≡ refused_run
unfolding number event_judged
unlawful r e h = rw h

ended-refuses : (r : Run) (e : Event) → r.mark ≡ mark_set → accepts r e ≡ false
ended-refuses r e m = by_bool (is_legal r) (λ t. rw (ended-number r e m t)) (λ t. rw (unlawful r e t))

pub after-end : AfterEnd
unfolding after
after-end r es m = (stays r es m, λ e h. ended-number r e m h)
  where
    stays : (r : Run) (es : List Event) → r.mark ≡ mark_set → after r es ≡ r
    stays r [] m = refl
    stays r (e ∷ es) m = ap (λ (q : Run). after q es) (refused-keeps r e (ended-refuses r e m)) ∙ stays r es m
