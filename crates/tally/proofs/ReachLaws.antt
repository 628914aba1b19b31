-- Every legal run is reached: undo the running case, or else a closed one, until none is started. Assumes nothing.
use mathlib.Core.Path.{◌≡◌, refl, sym, ◌∙◌, ap}
use Prim.Native.Nat.{ℕ, zero, suc, ◌<◌, ◌≤◌}
use native.Mathlib.Omega.{arith}
use mathlib.Core.Bool.{Bool, true, false, cond, not, or-true}
use mathlib.Core.List.{List, [], ◌∷◌, ◌++◌, map}
use lib.Dec.{eqb, leb}
use lib.ListN.{length, length-map}
use borrow.Author.Tests.{eqb-true, eqb-false, eq-eqb, ne_eqb, leb-true, leb-false, le-leb, not-true, not-false}
use Rattle.tally.specs.declared.RbCase.{RbCase}
use Rattle.tally.specs.Codes.{most_cases, state_not_run, state_running, state_failed, state_broken, event_start, event_crash, event_end, mark_clear, mark_set, accepted}
use Rattle.octets.specs.Lists.{every}
use Rattle.tally.specs.Run.{count_if, some_if, has_id, running, known, is_not_run, ascending, legal_cases, mark_fits, legal_run, event_judged, unknown, not_startable, none_running, state_of, number, state_after, restated, changed, became, mark_after}
use Rattle.tally.specs.History.{Run, Event, fed, after, new_run}
use Rattle.octets.specs.Ascending.{All}
use Rattle.octets.proofs.AllLaws.{all_so, all_both}
use Rattle.octets.proofs.BoolLaws.{by_bool, left-of, right_of, not-both-ways}
use Rattle.tally.proofs.CaseLaws.{count_none, none-count, change-none, ascending-once, Legal, legal-parts, parts-legal}
use Rattle.tally.proofs.HistoryLaws.{all-false, map-map, named-states, named-runs, runner-named, by_kind, changed-id, ascending-changed, known-changed, legal-on}
use Rattle.tally.proofs.NumberLaws.{taken}

after_two : (r : Run) (es fs : List Event) → after r (es ++ fs) ≡ after (after r es) fs
unfolding after
after_two r [] fs = refl
after_two r (e ∷ es) fs = after_two (fed r e) es fs

map-fixed : (f : RbCase → RbCase) (cs : List RbCase) → All (λ c. f c ≡ c) cs → map f cs ≡ cs
map-fixed f [] a = refl
map-fixed f (c ∷ cs) a = rw (a.0, map-fixed f cs a.1)

-- ---- one id set to a state
module _ (id k : ℕ) where
  listed-set : (cs : List RbCase) → some_if (has_id id) (map (changed (has_id id) k) cs) ≡ some_if (has_id id) cs
  unfolding some_if
  listed-set [] = refl
  listed-set (c ∷ cs) = rw (changed-id (has_id id) k c, listed-set cs)

  state-set : (cs : List RbCase) → some_if (has_id id) cs ≡ true → state_of id (map (changed (has_id id) k) cs) ≡ k
  unfolding some_if state_of
  state-set [] e = not-both-ways e refl
  state-set (c ∷ cs) e = by_bool (has_id id c) (λ t. rw (t, t)) (λ t. rw (t, t) (state-set cs (rw t at e)))

  -- where whatever runs has this id, none runs afterwards
  runs-set : (cs : List RbCase) → eqb k state_running ≡ false → All (λ c. running c ≡ true → c.id ≡ id) cs → some_if running (map (changed (has_id id) k) cs) ≡ false
  unfolding some_if
  runs-set [] n a = refl
  runs-set (c ∷ cs) n a =
      by_bool (has_id id c) (λ t. rw (t, n) (runs-set cs n a.1))
      (λ t. by_bool (running c) (λ s. not-both-ways (eq-eqb c.id id (a.0 s)) t) (λ s. rw (t, s) (runs-set cs n a.1)))

-- the ids of a list, none run
new_run-set : (p : RbCase → Bool) (k : ℕ) (cs : List RbCase) → map (restated state_not_run) (map (changed p k) cs) ≡ map (restated state_not_run) cs
new_run-set p k [] = refl
new_run-set p k (c ∷ cs) = rw (changed-id p k c, new_run-set p k cs)

abbrev started : RbCase → Bool
started c = not (is_not_run c)

-- one case less is started
fewer : (id : ℕ) (cs : List RbCase) → some_if (has_id id) cs ≡ true → eqb (state_of id cs) 0 ≡ false → count_if started (map (changed (has_id id) state_not_run) cs) < count_if started cs
unfolding some_if state_of count_if
fewer id [] l e = not-both-ways l refl
fewer id (c ∷ cs) l e =
    let rest = no_more id cs in
    by_bool (has_id id c) (λ t. let s : is_not_run c ≡ false = rw t at e in rw (t, s) (omega (arith, rest)))
    (λ t. let r = fewer id cs (rw t at l) (rw t at e) in rw t (by_bool (is_not_run c) (λ s. rw s r) (λ s. rw s (omega (arith, r)))))
  where
    no_more : (id : ℕ) (cs : List RbCase) → count_if started (map (changed (has_id id) state_not_run) cs) ≤ count_if started cs
    no_more id [] = omega arith
    no_more id (c ∷ cs) = let r = no_more id cs in by_bool (has_id id c) (λ t. rw t (by_bool (is_not_run c) (λ s. rw s r) (λ s. rw s (omega (arith, r))))) (λ t. rw t (by_bool (is_not_run c) (λ s. rw s r) (λ s. rw s (omega (arith, r)))))

-- a case for which a test holds, found by its id
record Picked (p : RbCase → Bool) (cs : List RbCase) : Type 0 where
  one : RbCase
  holds : p one ≡ true
  listed : some_if (has_id one.id) cs ≡ true
  stands : state_of one.id cs ≡ one.state

count-some : (p : RbCase → Bool) (cs : List RbCase) → some_if p cs ≡ true → 0 < count_if p cs
count-some p cs e = by_bool (eqb (count_if p cs) 0) (λ t. not-both-ways e (count_none p cs (eqb-true (count_if p cs) 0 t))) (λ t. omega (arith, eqb-false (count_if p cs) 0 t))

pick : (p : RbCase → Bool) (cs : List RbCase) → ((k : ℕ) → count_if (has_id k) cs ≤ 1) → some_if p cs ≡ true → Picked p cs
unfolding some_if state_of count_if
pick p [] u e = not-both-ways e refl
pick p (c ∷ cs) u e =
    by_bool (p c) (λ t. record { one = c; holds = t; listed = rw (eq-eqb c.id c.id refl); stands = rw (eq-eqb c.id c.id refl) })
    (λ t. let q = pick p cs (λ k. smaller k) (rw t at e) in
    let k = q.one.id in
    let other : has_id k c ≡ false = by_bool (has_id k c) (λ s. absurd (omega (arith, rw s at (u k), count-some (has_id k) cs q.listed))) (λ s. s) in
    record { one = q.one; holds = q.holds; listed = rw (q.listed, or-true); stands = rw other q.stands })
  where
    smaller : (k : ℕ) → count_if (has_id k) cs ≤ 1
    smaller k = by_bool (has_id k c) (λ s. omega (arith, rw s at (u k))) (λ s. rw s at (u k))

-- ---- accepted events
judged-start : event_judged true mark_clear event_start true false state_not_run ≡ accepted
unfolding event_judged unknown not_startable none_running
judged-start = refl

judged-close : (event : ℕ) → eqb event event_start ≡ false → event_start ≤ event → event ≤ event_end → event_judged true mark_clear event true true state_running ≡ accepted
unfolding event_judged unknown not_startable none_running
judged-close = by_kind (λ event. event_judged true mark_clear event true true state_running ≡ accepted) refl refl refl refl

judged-end : (listed runs : Bool) (state : ℕ) → event_judged true mark_clear event_end listed runs state ≡ accepted
unfolding event_judged unknown not_startable none_running
judged-end listed runs state = refl

module _ (cs : List RbCase) (ok : legal_run cs 0 ≡ true) where
  abbrev now : Run
  now = record { cases = cs; mark = mark_clear }

  -- a start of a listed case that is not run, while none runs
  start-fed : (id : ℕ) → some_if (has_id id) cs ≡ true → some_if running cs ≡ false → state_of id cs ≡ state_not_run → fed now (record { kind = event_start; id = id }) ≡ record { cases = map (changed (has_id id) state_running) cs; mark = mark_clear }
  unfolding number became state_after mark_after
  start-fed id l n z = rw (ok, l, n, z, judged-start)

  -- another event that names the running case
  close-fed : (event id : ℕ) → eqb event event_start ≡ false → event_start ≤ event → event ≤ event_crash → some_if (has_id id) cs ≡ true → state_of id cs ≡ state_running
      → fed now (record { kind = event; id = id }) ≡ record { cases = map (changed running (state_after event)) cs; mark = mark_clear }
  unfolding number became mark_after
  close-fed event id n low high l z =
      rw (ok, l, named-runs id cs l z, z, judged-close event n low (omega arith), ne_eqb event event_end (λ e. omega (arith, e)))
      (ap (λ (b : Bool). record { cases = map (changed (λ c. cond b (has_id id c) (running c)) (state_after event)) cs; mark = mark_clear }) n)

  end-fed : some_if running cs ≡ false → fed now (record { kind = event_end; id = 0 }) ≡ record { cases = cs; mark = mark_set }
  unfolding number became state_after mark_after
  end-fed n = rw (ok, judged-end (some_if (has_id 0) cs) (some_if running cs) (state_of 0 cs), change-none running state_broken cs n)

-- ---- a step back: the case with an id not run
module _ (cs : List RbCase) (l : Legal cs) (id : ℕ) (listed : some_if (has_id id) cs ≡ true) (alone : All (λ c. running c ≡ true → c.id ≡ id) cs) where
  abbrev back : List RbCase
  back = map (changed (has_id id) state_not_run) cs

  back-free : some_if running back ≡ false
  back-free = runs-set id 0 cs refl alone

  back-parts : Legal back
  back-parts = record {
    short = rw (length-map cs (changed (has_id id) state_not_run)) l.short;
    order = ascending-changed (has_id id) state_not_run cs ∙ l.order;
    knows = known-changed (has_id id) state_not_run cs refl l.knows;
    single = rw (none-count running back back-free) (omega arith);
  }

  back-legal : legal_run back 0 ≡ true
  unfolding legal_run mark_fits
  back-legal = rw (parts-legal back back-parts)

  abbrev begun : List RbCase
  begun = map (changed (has_id id) state_running) back

  begin-it : fed (record { cases = back; mark = mark_clear }) (record { kind = event_start; id = id }) ≡ record { cases = begun; mark = mark_clear }
  begin-it = start-fed back back-legal id (listed-set id 0 cs ∙ listed) back-free (state-set id 0 cs listed)

  begun-legal : legal_run begun 0 ≡ true
  unfolding became state_after mark_after number
  begun-legal = legal-on back 0 1 id (taken back 0 1 id (rw (back-legal, listed-set id 0 cs ∙ listed, back-free, state-set id 0 cs listed, judged-start)))

  -- the running case is begun again
  begun-runs : state_of id cs ≡ state_running → begun ≡ cs
  begun-runs z =
      map-map (changed (has_id id) state_running) (changed (has_id id) state_not_run) cs
      ∙ map-fixed (λ c. changed (has_id id) state_running (changed (has_id id) state_not_run c)) cs (all_so _ _ (λ c (f : has_id id c ≡ true → c.state ≡ state_of id cs). again c (λ t. f t ∙ z)) cs (named-states id cs (ascending-once id cs l.order)))
    where
      again : (c : RbCase) → (has_id id c ≡ true → c.state ≡ state_running) → changed (has_id id) state_running (changed (has_id id) state_not_run c) ≡ c
      again c f = by_bool (has_id id c) (λ t. rw (t, t) (ap (λ (n : ℕ). record { id = c.id; state = n }) (sym (f t)))) (λ t. rw (t, t))

  -- a closed case is begun and closed again
  closed-again : (k : ℕ) → state_of id cs ≡ k → some_if running cs ≡ false → map (changed running k) begun ≡ cs
  closed-again k z n =
      map-map (changed running k) (changed (has_id id) state_running) back ∙ map-map (λ c. changed running k (changed (has_id id) state_running c)) (changed (has_id id) state_not_run) cs
      ∙ map-fixed (λ c. changed running k (changed (has_id id) state_running (changed (has_id id) state_not_run c)))
      cs (all_so _ _ (λ c (f : (running c ≡ false) × (has_id id c ≡ true → c.state ≡ state_of id cs)). again c f.0 (λ t. f.1 t ∙ z)) cs (all_both _ _ cs (all-false running cs n) (named-states id cs (ascending-once id cs l.order))))
    where
      again : (c : RbCase) → running c ≡ false → (has_id id c ≡ true → c.state ≡ k) → changed running k (changed (has_id id) state_running (changed (has_id id) state_not_run c)) ≡ c
      again c s f = by_bool (has_id id c) (λ t. rw (t, t) (ap (λ (m : ℕ). record { id = c.id; state = m }) (sym (f t)))) (λ t. rw (t, t, s))

-- ---- all the way back
unfoldable pub Reached : List RbCase → Type 0
Reached cs = (es : List Event) × (after (new_run cs) es ≡ record { cases = cs; mark = mark_clear })

-- none is started: no event is needed
none-started : (cs : List RbCase) → some_if started cs ≡ false → Reached cs
unfolding Reached after
none-started cs n = ([], ap (λ (l : List RbCase). record { cases = l; mark = mark_clear }) (map-fixed (restated state_not_run) cs (all_so _ _ (λ c (f : started c ≡ false). not-run-is c f) cs (all-false started cs n))))
  where
    not-run-is : (c : RbCase) → started c ≡ false → restated state_not_run c ≡ c
    not-run-is c f = ap (λ (n : ℕ). record { id = c.id; state = n }) (sym (eqb-true c.state 0 (not-false (is_not_run c) f)))

-- from where the case with an id is not run, one event more, or two
one_further : (cs : List RbCase) (id : ℕ) (e : Event) → fed (record { cases = map (changed (has_id id) state_not_run) cs; mark = mark_clear }) e ≡ record { cases = cs; mark = mark_clear } → Reached (map (changed (has_id id) state_not_run) cs) → Reached cs
unfolding Reached after
one_further cs id e f r =
    (r.0 ++ (e ∷ []), after_two (new_run cs) r.0 (e ∷ []) ∙ ap (λ (q : Run). fed (after q r.0) e) (ap (λ (l : List RbCase). record { cases = l; mark = mark_clear }) (sym (new_run-set (has_id id) 0 cs))) ∙ ap (λ (q : Run). fed q e) r.1 ∙ f)

two-further : (cs : List RbCase) (id : ℕ) (d e : Event) → fed (fed (record { cases = map (changed (has_id id) state_not_run) cs; mark = mark_clear }) d) e ≡ record { cases = cs; mark = mark_clear } → Reached (map (changed (has_id id) state_not_run) cs) → Reached cs
unfolding Reached after
two-further cs id d e f r =
    (r.0 ++ (d ∷ e ∷ []), after_two (new_run cs) r.0 (d ∷ e ∷ []) ∙ ap (λ (q : Run). fed (fed (after q r.0) d) e) (ap (λ (l : List RbCase). record { cases = l; mark = mark_clear }) (sym (new_run-set (has_id id) 0 cs))) ∙ ap (λ (q : Run). fed (fed q d) e) r.1 ∙ f)

-- a closed state is the event that gives it
closed_is : (k : ℕ) → leb k state_broken ≡ true → eqb k state_not_run ≡ false → eqb k state_running ≡ false → state_after k ≡ k
unfolding state_after
closed_is k h z o = by_bool (leb k state_failed) (λ t. rw t) (λ t. rw t (omega (arith, leb-true k state_broken h, leb-false k state_failed t)))

known_of : (id : ℕ) (cs : List RbCase) → every known cs ≡ true → some_if (has_id id) cs ≡ true → state_of id cs ≤ state_broken
unfolding every some_if state_of
known_of id [] h e = not-both-ways e refl
known_of id (c ∷ cs) h e =
    by_bool (has_id id c) (λ t. rw t (leb-true c.state state_broken (left-of (known c) (every known cs) h))) (λ t. rw t (known_of id cs (right_of (known c) (every known cs) h) (rw t at e)))

pub reach : (n : ℕ) (cs : List RbCase) → count_if started cs ≤ n → Legal cs → Reached cs
reach zero cs few l = none-started cs (count_none started cs (omega arith))
reach (suc n) cs few l =
    by_bool (some_if started cs)
    (λ some. by_bool (some_if running cs)
    (λ t. let q = pick running cs (λ k. ascending-once k cs l.order) t in
    let id = q.one.id in
    let z : state_of id cs ≡ state_running = q.stands ∙ eqb-true q.one.state state_running q.holds in
    let alone = runner-named id cs l.single q.listed z in
    one_further cs id (record { kind = event_start; id = id }) (begin-it cs l id q.listed alone ∙ ap (λ (c : List RbCase). record { cases = c; mark = mark_clear }) (begun-runs cs l id q.listed alone z))
    (reach n (map (changed (has_id id) state_not_run) cs) (omega (arith, few, fewer id cs q.listed (rw z refl))) (back-parts cs l id q.listed alone)))
    (λ t. let q = pick started cs (λ k. ascending-once k cs l.order) some in
    let id = q.one.id in
    let k = state_of id cs in
    let alone : All (λ c. running c ≡ true → c.id ≡ id) cs = all_so (λ c. running c ≡ false) (λ c. running c ≡ true → c.id ≡ id) (λ c f g. not-both-ways g f) cs (all-false running cs t) in
    let nonzero : eqb k 0 ≡ false = rw q.stands (not-true (is_not_run q.one) q.holds) in
    let other : eqb k state_running ≡ false = by_bool (eqb k state_running) (λ s. not-both-ways (named-runs id cs q.listed (eqb-true k state_running s)) t) (λ s. s) in
    let low : k ≤ state_broken = known_of id cs l.knows q.listed in
    two-further cs id (record { kind = event_start; id = id }) (record { kind = k; id = id })
    (ap (λ (r : Run). fed r (record { kind = k; id = id })) (begin-it cs l id q.listed alone)
    ∙ close-fed (begun cs l id q.listed alone) (begun-legal cs l id q.listed alone) k id other (omega (arith, eqb-false k 0 nonzero)) (omega (arith, low))
    (listed-set id 1 (back cs l id q.listed alone) ∙ listed-set id 0 cs ∙ q.listed) (state-set id 1 (back cs l id q.listed alone) (listed-set id 0 cs ∙ q.listed))
    ∙ ap (λ (c : List RbCase). record { cases = c; mark = mark_clear }) (ap (λ (s : ℕ). map (changed running s) (begun cs l id q.listed alone)) (closed_is k (le-leb k state_broken (omega (arith, low))) nonzero other) ∙ closed-again cs l id q.listed alone k refl t))
    (reach n (map (changed (has_id id) state_not_run) cs) (omega (arith, few, fewer id cs q.listed nonzero)) (back-parts cs l id q.listed alone))))
    (λ none. none-started cs none)

-- an ended run was reached before its end
pub reach-end : (cs : List RbCase) → legal_cases cs ≡ true → some_if running cs ≡ false → (es : List Event) × (after (new_run cs) es ≡ record { cases = cs; mark = mark_set })
unfolding Reached after legal_run mark_fits
reach-end cs ok n =
    let r = reach (count_if started cs) cs (omega arith) (legal-parts cs ok) in
    (r.0 ++ (record { kind = event_end; id = 0 } ∷ []), after_two (new_run cs) r.0 (record { kind = event_end; id = 0 } ∷ []) ∙ ap (λ (q : Run). fed q (record { kind = event_end; id = 0 })) r.1 ∙ end-fed cs (rw ok) n)

pub reach-open : (cs : List RbCase) → legal_cases cs ≡ true → Reached cs
reach-open cs ok = reach (count_if started cs) cs (omega arith) (legal-parts cs ok)

-- ---- a new run
new_run-known : (cs : List RbCase) → every known (map (restated state_not_run) cs) ≡ true
unfolding every
new_run-known [] = refl
new_run-known (c ∷ cs) = new_run-known cs

new_run-free : (cs : List RbCase) → count_if running (map (restated state_not_run) cs) ≡ 0
unfolding count_if
new_run-free [] = refl
new_run-free (c ∷ cs) = new_run-free cs

pub new-parts : (cs : List RbCase) → length cs ≤ most_cases → ascending cs ≡ true → Legal (map (restated state_not_run) cs)
new-parts cs h o = record {
  short = rw (length-map cs (restated state_not_run)) h;
  order = ascending-changed (λ c. true) 0 cs ∙ o;
  knows = new_run-known cs;
  single = rw (new_run-free cs) (omega arith);
}
