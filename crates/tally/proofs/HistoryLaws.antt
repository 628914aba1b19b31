-- Runs fed with events: what an accepted event does to a legal list, and what it says of each case. Assumes nothing.
use mathlib.Core.Path.{◌≡◌, refl, sym, ◌∙◌, ap, subst}
use Prim.Native.Nat.{ℕ, suc, ◌≤◌}
use native.Mathlib.Omega.{arith}
use mathlib.Core.Bool.{Bool, true, false, cond, not, ◌||◌, or-true}
use mathlib.Core.List.{List, [], ◌∷◌, map}
use lib.Dec.{eqb, leb}
use lib.ListN.{length-map}
use borrow.Author.Tests.{eqb-true, eqb-false, eq-eqb, ne_eqb, leb-true, le-leb, not-false}
use Rattle.tally.specs.declared.RbCase.{RbCase}
use Rattle.tally.specs.Codes.{state_not_run, state_running, state_broken, event_start, event_pass, event_fail, event_crash, event_end, mark_clear}
use Rattle.octets.specs.Lists.{every}
use Rattle.tally.specs.Run.{count_if, some_if, has_id, running, known, above, ascending, legal_cases, mark_fits, legal_run, unknown, not_startable, none_running, state_of, state_after, changed, became, mark_after}
use Rattle.tally.specs.History.{Event, names, closed_by, told, told_from, as_told_from}
use Rattle.octets.specs.Ascending.{All}
use Rattle.octets.proofs.AllLaws.{all_so, all_both, all_any}
use Rattle.octets.proofs.BoolLaws.{by_bool, left-of, right_of, not-both-ways}
use Rattle.tally.proofs.CaseLaws.{count_none, none-count, ascending-once, Legal, legal-parts, parts-legal}
use Rattle.tally.proofs.NumberLaws.{Taken}

-- ---- what holds of every case of a list
pub map_same : (f g : RbCase → RbCase) (cs : List RbCase) → All (λ c. f c ≡ g c) cs → map f cs ≡ map g cs
map_same f g [] a = refl
map_same f g (c ∷ cs) a = rw (a.0, map_same f g cs a.1)

pub map-map : (f g : RbCase → RbCase) (cs : List RbCase) → map f (map g cs) ≡ map (λ c. f (g c)) cs
map-map f g [] = refl
map-map f g (c ∷ cs) = ap (λ (l : List RbCase). f (g c) ∷ l) (map-map f g cs)

pub all-false : (p : RbCase → Bool) (cs : List RbCase) → some_if p cs ≡ false → All (λ c. p c ≡ false) cs
unfolding some_if
all-false p [] e = tt
all-false p (c ∷ cs) e = by_bool (p c) (λ t. not-both-ways refl (rw t at e)) (λ t. (t, all-false p cs (rw t at e)))

-- ---- the list after a change
module _ (p : RbCase → Bool) (state : ℕ) where
  pub changed-id : (c : RbCase) → (changed p state c).id ≡ c.id
  changed-id c = by_bool (p c) (λ t. rw t) (λ t. rw t)

  above-changed : (n : ℕ) (cs : List RbCase) → above n (map (changed p state) cs) ≡ above n cs
  unfolding above
  above-changed n [] = refl
  above-changed n (c ∷ cs) = rw (changed-id c, above-changed c.id cs)

  pub ascending-changed : (cs : List RbCase) → ascending (map (changed p state) cs) ≡ ascending cs
  unfolding ascending
  ascending-changed [] = refl
  ascending-changed (c ∷ cs) = rw (changed-id c, above-changed c.id cs)

  pub known-changed : (cs : List RbCase) → leb state state_broken ≡ true → every known cs ≡ true → every known (map (changed p state) cs) ≡ true
  unfolding every
  known-changed [] s e = refl
  known-changed (c ∷ cs) s e =
      let r = known-changed cs s (right_of (known c) (every known cs) e) in
      by_bool (p c) (λ t. rw (t, s) r) (λ t. rw (t, left-of (known c) (every known cs) e) r)

closed-running : (state : ℕ) (cs : List RbCase) → eqb state state_running ≡ false → some_if running (map (changed running state) cs) ≡ false
unfolding some_if
closed-running state [] e = refl
closed-running state (c ∷ cs) e = by_bool (running c) (λ t. rw (t, e) (closed-running state cs e)) (λ t. rw (t, t) (closed-running state cs e))

started-running : (p : RbCase → Bool) (cs : List RbCase) → some_if running cs ≡ false → count_if running (map (changed p 1) cs) ≡ count_if p cs
unfolding some_if count_if
started-running p [] e = refl
started-running p (c ∷ cs) e =
    by_bool (running c) (λ t. not-both-ways refl (rw t at e))
    (λ t. let r = started-running p cs (rw t at e) in by_bool (p c) (λ s. rw s (ap suc r)) (λ s. rw (s, t) r))

-- an id that stands once names one state
pub named-states : (id : ℕ) (cs : List RbCase) → count_if (has_id id) cs ≤ 1 → All (λ c. has_id id c ≡ true → c.state ≡ state_of id cs) cs
unfolding count_if state_of
named-states id [] h = tt
named-states id (c ∷ cs) h =
    by_bool (has_id id c)
    (λ t. let z : count_if (has_id id) cs ≡ 0 = omega (arith, rw t at h) in
    ((λ _. rw t), all_so _ _ (λ d f g. not-both-ways g f) cs (all-false (has_id id) cs (count_none (has_id id) cs z))))
    (λ t. let e : state_of id (c ∷ cs) ≡ state_of id cs = rw t in
    ((λ g. not-both-ways g t), subst (λ (n : ℕ). All (λ d. has_id id d ≡ true → d.state ≡ n) cs) (sym e) (named-states id cs (rw t at h))))

-- a listed case that is running is among those that run
pub named-runs : (id : ℕ) (cs : List RbCase) → some_if (has_id id) cs ≡ true → state_of id cs ≡ state_running → some_if running cs ≡ true
unfolding some_if state_of
named-runs id [] l e = not-both-ways l refl
named-runs id (c ∷ cs) l e =
    by_bool (has_id id c) (λ t. let s : c.state ≡ state_running = rw t at e in rw (eq-eqb c.state state_running s))
    (λ t. rw (named-runs id cs (rw t at l) (rw t at e), or-true))

-- where one runs at most, and the case with this id runs, whatever runs has this id
pub runner-named : (id : ℕ) (cs : List RbCase) → count_if running cs ≤ 1 → some_if (has_id id) cs ≡ true → state_of id cs ≡ state_running → All (λ c. running c ≡ true → c.id ≡ id) cs
unfolding count_if some_if state_of
runner-named id [] h l e = tt
runner-named id (c ∷ cs) h l e =
    by_bool (has_id id c)
    (λ t. let s : c.state ≡ state_running = rw t at e in let z : count_if running cs ≡ 0 = omega (arith, rw (eq-eqb c.state state_running s) at h) in
    ((λ _. eqb-true c.id id t), all_so _ _ (λ d f g. not-both-ways g f) cs (all-false running cs (count_none running cs z))))
    (λ t. by_bool (running c)
    (λ s. let z : count_if running cs ≡ 0 = omega (arith, rw s at h) in not-both-ways (named-runs id cs (rw t at l) (rw t at e)) (count_none running cs z))
    (λ s. ((λ g. not-both-ways g s), runner-named id cs (rw s at h) (rw t at l) (rw t at e))))

-- ---- what an event says of one case, against what it does to it
pub by_kind : (P : ℕ → Type 0) → P event_pass → P event_fail → P event_crash → P event_end → (event : ℕ) → eqb event event_start ≡ false → event_start ≤ event → event ≤ event_end → P event
by_kind P a b c d event n l h =
    by_bool (eqb event event_pass) (λ t. rw (eqb-true event event_pass t) a) (λ t₂. by_bool (eqb event event_fail) (λ t. rw (eqb-true event event_fail t) b) (λ t₃. by_bool (eqb event event_crash) (λ t. rw (eqb-true event event_crash t) c) (λ t₄.
    let e : event ≡ event_end = omega (arith, eqb-false event event_start n, eqb-false event event_pass t₂, eqb-false event event_fail t₃, eqb-false event event_crash t₄) in rw e d)))

-- an event that is no start of it says nothing of a case that does not run
told-kept : (e : Event) (es : List Event) (c : RbCase) → running c ≡ false → names event_start c.id e ≡ false → told_from c.state c.id (e ∷ es) ≡ told_from c.state c.id es
unfolding told_from told
told-kept e es c n s = rw (n, s)

opened : (id s k : ℕ) (es : List Event) → s ≡ 0 → k ≡ id → told_from 1 k es ≡ told_from s k (record { kind = event_start; id = id } ∷ es)
unfolding told_from told
opened id s k es z i = rw (z, eq-eqb id k (sym i))

told-start : (id : ℕ) (es : List Event) (c : RbCase) → (running c ≡ false) × (has_id id c ≡ true → c.state ≡ state_not_run) → as_told_from es (changed (has_id id) state_running c) ≡ as_told_from (record { kind = event_start; id = id } ∷ es) c
told-start id es c f =
    by_bool (has_id id c)
    (λ t. rw t (ap (λ (n : ℕ). record { id = c.id; state = n }) (opened id c.state c.id es (f.1 t) (eqb-true c.id id t))))
    (λ t. rw t (ap (λ (n : ℕ). record { id = c.id; state = n }) (sym (told-kept (record { kind = event_start; id = id }) es c f.0 (ne_eqb id c.id (λ i. eqb-false c.id id t (sym i)))))))

Closes : ℕ → ℕ → List Event → ℕ → Type 0
Closes id k es event = (leb event event_fail ≡ true → k ≡ id) → told_from (state_after event) k es ≡ closed_by k (record { kind = event; id = id } ∷ es)

closes-each : (id k : ℕ) (es : List Event) → Closes id k es event_pass × Closes id k es event_fail × Closes id k es event_crash × Closes id k es event_end
unfolding Closes told_from state_after closed_by
closes-each id k es = (λ f. rw (eq-eqb id k (sym (f refl))), λ f. rw (eq-eqb id k (sym (f refl))), λ f. refl, λ f. refl)

closes : (id k : ℕ) (es : List Event) (event : ℕ) → eqb event event_start ≡ false → event_start ≤ event → event ≤ event_end → Closes id k es event
closes id k es = let all = closes-each id k es in by_kind (Closes id k es) all.0 all.1 all.2 all.3

told-running : (k : ℕ) (es : List Event) (s : ℕ) → s ≡ 1 → told_from s k es ≡ closed_by k es
unfolding told_from
told-running k es s e = rw e

told-close : (event id : ℕ) (es : List Event) (c : RbCase) → eqb event event_start ≡ false → event_start ≤ event → event ≤ event_end → (running c ≡ true → leb event event_fail ≡ true → c.id ≡ id)
    → as_told_from es (changed running (state_after event) c) ≡ as_told_from (record { kind = event; id = id } ∷ es) c
unfolding Closes
told-close event id es c n l h f =
    by_bool (running c)
    (λ t. rw t (ap (λ (k : ℕ). record { id = c.id; state = k })
    (closes id c.id es event n l h (f t) ∙ sym (told-running c.id (record { kind = event; id = id } ∷ es) c.state (eqb-true c.state state_running t)))))
    (λ t. rw t (ap (λ (k : ℕ). record { id = c.id; state = k }) (sym (told-kept (record { kind = event; id = id }) es c t (rw n)))))

-- ---- an accepted event, by its kind
module _ (cs : List RbCase) (m event id : ℕ) (a : Taken cs m event id) where
  lawful : Legal cs
  unfolding legal_run
  lawful = legal-parts cs (left-of (legal_cases cs) (mark_fits m (some_if running cs)) a.is-legal)

  -- the mark is clear
  clear : m ≡ 0
  unfolding legal_run mark_fits
  clear =
      by_bool (eqb m mark_clear) (λ t. eqb-true m 0 t)
      (λ t. let e = right_of (legal_cases cs) (mark_fits m (some_if running cs)) a.is-legal in not-both-ways (rw (t, a.unended) at e) refl)

  in-range : (event_start ≤ event) × (event ≤ event_end)
  unfolding unknown
  in-range =
      by_bool (leb event_start event) (λ t. by_bool (leb event event_end) (λ s. (leb-true event_start event t, leb-true event event_end s)) (λ s. not-both-ways refl (rw (t, s) at a.is_known))) (λ t. not-both-ways refl (rw t at a.is_known))

  -- ---- a start
  module _ (start : eqb event event_start ≡ true) where
    start-free : (state_of id cs ≡ state_not_run) × (some_if running cs ≡ false)
    unfolding not_startable
    start-free =
        let e : not (eqb (state_of id cs) 0) || some_if running cs ≡ false = rw start at a.startable in
        by_bool (eqb (state_of id cs) 0) (λ t. (eqb-true (state_of id cs) 0 t, rw t at e)) (λ t. not-both-ways refl (rw t at e))

    start_is : map (became event id) cs ≡ map (changed (has_id id) state_running) cs
    unfolding became state_after
    start_is = rw (eqb-true event event_start start)

    start-told : (es : List Event) → map (as_told_from es) (map (changed (has_id id) state_running) cs) ≡ map (as_told_from (record { kind = event_start; id = id } ∷ es)) cs
    start-told es =
        map-map (as_told_from es) (changed (has_id id) state_running) cs ∙ map_same (λ c. as_told_from es (changed (has_id id) state_running c)) (as_told_from (record { kind = event_start; id = id } ∷ es)) cs
        (all_so _ _ (λ c f. told-start id es c (f.0, λ t. f.1 t ∙ start-free.0)) cs (all_both _ _ cs (all-false running cs start-free.1) (named-states id cs (ascending-once id cs lawful.order))))

    start-legal : Legal (map (changed (has_id id) state_running) cs)
    start-legal = record {
      short = rw (length-map cs (changed (has_id id) state_running)) lawful.short;
      order = ascending-changed (has_id id) state_running cs ∙ lawful.order;
      knows = known-changed (has_id id) state_running cs refl lawful.knows;
      single = rw (started-running (has_id id) cs start-free.1) (ascending-once id cs lawful.order);
    }

  -- ---- another event
  module _ (other : eqb event event_start ≡ false) where
    -- a verdict names the running case
    names-runner : leb event event_fail ≡ true → (some_if (has_id id) cs ≡ true) × (state_of id cs ≡ state_running)
    unfolding unknown none_running
    names-runner t =
        let low : leb event_pass event ≡ true = le-leb event_pass event (omega (arith, eqb-false event event_start other, in-range.0)) in
        let high : leb event event_crash ≡ true = le-leb event event_crash (omega (arith, leb-true event event_fail t)) in
        let k : not (some_if (has_id id) cs) ≡ false = rw (le-leb event_start event in-range.0, le-leb event event_end in-range.1, t) at a.is_known in
        let v : not (some_if running cs) || not (eqb (state_of id cs) 1) ≡ false = rw (low, high, t) at a.one-runs in
        (not-false (some_if (has_id id) cs) k, by_bool (eqb (state_of id cs) 1) (λ s. eqb-true (state_of id cs) 1 s) (λ s. not-both-ways refl (rw (s, or-true) at v)))

    other-is : map (became event id) cs ≡ map (changed running (state_after event)) cs
    unfolding became
    other-is = ap (λ (b : Bool). map (changed (λ c. cond b (has_id id c) (running c)) (state_after event)) cs) other

    other-told : (es : List Event) → map (as_told_from es) (map (changed running (state_after event)) cs) ≡ map (as_told_from (record { kind = event; id = id } ∷ es)) cs
    other-told es =
        map-map (as_told_from es) (changed running (state_after event)) cs ∙ map_same (λ c. as_told_from es (changed running (state_after event) c)) (as_told_from (record { kind = event; id = id } ∷ es)) cs
        (all_so _ _ (λ c f. told-close event id es c other in-range.0 in-range.1 f) cs facts)
      where
        facts : All (λ c. running c ≡ true → leb event event_fail ≡ true → c.id ≡ id) cs
        facts =
            by_bool (leb event event_fail) (λ t. all_so _ _ (λ c f g _. f g) cs (runner-named id cs lawful.single (names-runner t).0 (names-runner t).1))
            (λ t. all_any (λ c. running c ≡ true → leb event event_fail ≡ true → c.id ≡ id) (λ c g s. not-both-ways s t) cs)

    closing-state : (leb (state_after event) state_broken ≡ true) × (eqb (state_after event) state_running ≡ false)
    unfolding state_after
    closing-state = by_bool (leb event event_fail) (λ t. rw t (le-leb event state_broken (omega (arith, leb-true event event_fail t)), other)) (λ t. rw t (refl, refl))

    other-free : some_if running (map (changed running (state_after event)) cs) ≡ false
    other-free = closed-running (state_after event) cs closing-state.1

    other-legal : Legal (map (changed running (state_after event)) cs)
    other-legal = record {
      short = rw (length-map cs (changed running (state_after event))) lawful.short;
      order = ascending-changed running (state_after event) cs ∙ lawful.order;
      knows = known-changed running (state_after event) cs closing-state.0 lawful.knows;
      single = rw (none-count running (map (changed running (state_after event)) cs) other-free) (omega arith);
    }

  -- ---- either
  pub told-on : (es : List Event) → map (as_told_from es) (map (became event id) cs) ≡ map (as_told_from (record { kind = event; id = id } ∷ es)) cs
  told-on es =
      by_bool (eqb event event_start) (λ t. ap (λ (l : List RbCase). map (as_told_from es) l) (start_is t) ∙ start-told t es ∙ rw (eqb-true event event_start t))
      (λ t. ap (λ (l : List RbCase). map (as_told_from es) l) (other-is t) ∙ other-told t es)

  pub legal-on : legal_run (map (became event id) cs) (mark_after event m) ≡ true
  unfolding legal_run mark_fits mark_after
  legal-on =
      by_bool (eqb event event_start)
      (λ t. rw (start_is t, parts-legal (map (changed (has_id id) state_running) cs) (start-legal t), eqb-true event event_start t, clear))
      (λ t. rw (other-is t, parts-legal (map (changed running (state_after event)) cs) (other-legal t), other-free t, clear) (by_bool (eqb event event_end) (λ s. rw s) (λ s. rw s)))
