-- The pass over the list: turn by turn, each of its parts by itself, and what a part comes to. Assumes nothing.
use mathlib.Core.Path.{◌≡◌, refl, sym, ◌∙◌, ap}
use Prim.Native.Nat.{ℕ, suc, ◌+◌, ◌<◌, ◌≤◌}
use native.Mathlib.Numerals.{add-one}
use native.Mathlib.Nat.{add-zero, zero-add}
use native.Mathlib.Omega.{arith}
use mathlib.Core.Bool.{Bool, true, false, cond, not, ◌&&◌, ◌||◌}
use mathlib.Core.List.{List, [], ◌∷◌}
use lib.Dec.{ltb}
use Rattle.std.specs.Prelude.{Option, None, Some, is_some}
use Rattle.std.specs.Bool.{then_some}
use Rattle.std.specs.Option.{option_or}
use lib.ListN.{length, get_or, drop, drop_of_length-le}
use lib.Seq.{drop-cons}
use borrow.Author.Tests.{lt-ltb, ltb-true, not-true}
use Rattle.tally.specs.declared.RbCase.{RbCase}
use Rattle.tally.specs.declared.steps.Found.{Found}
use Rattle.tally.specs.declared.steps.Scan.{Scan}
use Rattle.tally.specs.declared.judge.RbReport.{RbReport}
use Rattle.tally.specs.Codes.{most_cases}
use Rattle.octets.specs.Lists.{every}
use Rattle.tally.specs.Run.{count_if, some_if, has_id, running, known, is_passed, is_failed, is_broken, is_not_run, above, ascending, legal_cases, state_of}
use Rattle.tally.specs.Scan.{none, fresh, more, follows, sound_at, step_of, scan_from, scanned}
use Rattle.octets.proofs.BoolLaws.{by_bool, left-of, right_of, and_both, same_truth, not-both-ways}
use Rattle.tally.proofs.CaseLaws.{first_if, legal-parts, parts-legal}

-- ---- a turn of the loop
pub scan-turn : (sought : ℕ) (s : Scan) (i : ℕ) (ys : List RbCase) → i < length ys
    → scan_from sought i s (drop i ys) ≡ scan_from sought (i + 1) (step_of sought s i (get_or ys i none)) (drop (i + 1) ys)
unfolding scan_from
scan-turn sought s i ys within = rw (add-one, drop-cons ys i none within)

pub scan-done : (sought : ℕ) (s : Scan) (i : ℕ) (ys : List RbCase) → length ys ≤ i → scan_from sought i s (drop i ys) ≡ s
unfolding scan_from
scan-done sought s i ys over = rw (drop_of_length-le ys over)

-- ---- each part of the pass by itself
unfoldable good_with : ℕ → Bool → Option ℕ → Option ℕ → List RbCase → Bool
good_with at good last runner [] = good
good_with at good last runner (c ∷ cs) = good_with (suc at) (good && sound_at last (is_some runner) at c) (Some c.id) (option_or runner (then_some (running c) at)) cs

-- the same by whether one runs
unfoldable good_from : ℕ → Bool → Option ℕ → Bool → List RbCase → Bool
good_from at good last runs [] = good
good_from at good last runs (c ∷ cs) = good_from (suc at) (good && sound_at last runs at c) (Some c.id) (runs || running c) cs

unfoldable last_from : Option ℕ → List RbCase → Option ℕ
last_from last [] = last
last_from last (c ∷ cs) = last_from (Some c.id) cs

-- what is told of the first case for which a test holds, unless something is told before
unfoldable told_first : {A : Type 0} → (RbCase → Bool) → (ℕ → RbCase → A) → ℕ → Option A → List RbCase → Option A
told_first p tell at told [] = told
told_first p tell at told (c ∷ cs) = told_first p tell (suc at) (option_or told (then_some (p c) (tell at c))) cs

unfoldable count_from : (RbCase → Bool) → ℕ → List RbCase → ℕ
count_from p n [] = n
count_from p n (c ∷ cs) = count_from p (more (p c) n) cs

abbrev stands : ℕ → RbCase → ℕ
stands at c = at

abbrev seen : ℕ → RbCase → Found
seen at c = record { place = at; state = c.state }

abbrev parts_from : ℕ → ℕ → Scan → List RbCase → Scan
parts_from sought at s cs = record {
  good = good_with at s.good s.last s.runner cs;
  last = last_from s.last cs;
  runner = told_first running stands at s.runner cs;
  found = told_first (has_id sought) seen at s.found cs;
  passed = count_from is_passed s.passed cs;
  failed = count_from is_failed s.failed cs;
  broken = count_from is_broken s.broken cs;
  not_run = count_from is_not_run s.not_run cs;
}

parts : (sought at : ℕ) (s : Scan) (cs : List RbCase) → scan_from sought at s cs ≡ parts_from sought at s cs
unfolding scan_from good_with last_from told_first count_from
parts sought at s [] = refl
parts sought at s (c ∷ cs) = parts sought (suc at) (step_of sought s at c) cs

-- ---- what they come to
first-kept : {A : Type 0} (p : RbCase → Bool) (tell : ℕ → RbCase → A) (at : ℕ) (x : A) (cs : List RbCase) → told_first p tell at (Some x) cs ≡ Some x
unfolding told_first
first-kept p tell at x [] = refl
first-kept p tell at x (c ∷ cs) = first-kept p tell (suc at) x cs

next : (a b : ℕ) → suc a + b ≡ a + suc b
next a b = omega arith

runner-from : (at : ℕ) (cs : List RbCase) → told_first running stands at None cs ≡ then_some (some_if running cs) (at + first_if running cs)
unfolding told_first some_if first_if
runner-from at [] = refl
runner-from at (c ∷ cs) =
    by_bool (running c) (λ t. rw t (first-kept running stands (suc at) at cs ∙ ap (λ (n : ℕ). Some n) (sym (add-zero at))))
    (λ t. rw t (runner-from (suc at) cs ∙ ap (λ (n : ℕ). then_some (some_if running cs) n) (next at (first_if running cs))))

found-from : (id at : ℕ) (cs : List RbCase) → told_first (has_id id) seen at None cs ≡ then_some (some_if (has_id id) cs) (record { place = at + first_if (has_id id) cs; state = state_of id cs })
unfolding told_first some_if first_if state_of
found-from id at [] = refl
found-from id at (c ∷ cs) = by_bool (has_id id c) (λ t. rw t (first-kept (has_id id) seen (suc at) (seen at c) cs ∙ rw (add-zero at)))
    (λ t. rw t (found-from id (suc at) cs ∙ ap (λ (n : ℕ). then_some {T = Found} (some_if (has_id id) cs) (record { place = n; state = state_of id cs })) (next at (first_if (has_id id) cs))))

-- whether one runs, with one more
runs-on : (runner : Option ℕ) (b : Bool) (at : ℕ) → is_some (option_or runner (then_some b at)) ≡ is_some runner || b
runs-on None true at = refl
runs-on None false at = refl
runs-on (Some x) b at = refl

good-runs : (at : ℕ) (good : Bool) (last runner : Option ℕ) (cs : List RbCase) → good_with at good last runner cs ≡ good_from at good last (is_some runner) cs
unfolding good_with good_from
good-runs at good last runner [] = refl
good-runs at good last runner (c ∷ cs) =
    good-runs (suc at) (good && sound_at last (is_some runner) at c) (Some c.id) (option_or runner (then_some (running c) at)) cs
    ∙ ap (λ (b : Bool). good_from (suc at) (good && sound_at last (is_some runner) at c) (Some c.id) b cs) (runs-on runner (running c) at)

module _ (p : RbCase → Bool) where
  count-from : (n : ℕ) (cs : List RbCase) → n + length cs ≤ most_cases → count_from p n cs ≡ n + count_if p cs
  unfolding count_from count_if
  count-from n [] h = sym (add-zero n)
  count-from n (c ∷ cs) h =
      by_bool (p c) (λ t. let r : count_from p (n + 1) cs ≡ (n + 1) + count_if p cs = count-from (n + 1) cs (omega arith) in rw (t, lt-ltb n most_cases (omega arith)) (omega arith))
      (λ t. rw t (count-from n cs (omega arith)))

-- ---- the test of the whole list
unfoldable in_order : Option ℕ → List RbCase → Bool
in_order last [] = true
in_order last (c ∷ cs) = follows last c.id && above c.id cs

order-next : (n : ℕ) (cs : List RbCase) → in_order (Some n) cs ≡ above n cs
unfolding in_order above
order-next n [] = refl
order-next n (c ∷ cs) = refl

order-first : (cs : List RbCase) → in_order None cs ≡ ascending cs
unfolding in_order ascending
order-first [] = refl
order-first (c ∷ cs) = refl

-- what is asked of the rest of a list, from a place on
record Fine (at : ℕ) (last : Option ℕ) (runs : Bool) (cs : List RbCase) : Type 0 where
  short : at + length cs ≤ most_cases
  order : in_order last cs ≡ true
  knows : every known cs ≡ true
  single : cond runs 1 0 + count_if running cs ≤ 1

record Sound (last : Option ℕ) (runs : Bool) (at : ℕ) (c : RbCase) : Type 0 where
  room : at < most_cases
  next : follows last c.id ≡ true
  told : known c ≡ true
  alone : runs && running c ≡ false

sound-is : (last : Option ℕ) (runs : Bool) (at : ℕ) (c : RbCase) → sound_at last runs at c ≡ true → Sound last runs at c
sound-is last runs at c e =
    let l = left-of (ltb at most_cases && follows last c.id) (known c && not (runs && running c)) e in
    let r = right_of (ltb at most_cases && follows last c.id) (known c && not (runs && running c)) e in
    record {
      room = ltb-true at most_cases (left-of (ltb at most_cases) (follows last c.id) l);
      next = right_of (ltb at most_cases) (follows last c.id) l;
      told = left-of (known c) (not (runs && running c)) r;
      alone = not-true (runs && running c) (right_of (known c) (not (runs && running c)) r);
    }

is-sound : (last : Option ℕ) (runs : Bool) (at : ℕ) (c : RbCase) → Sound last runs at c → sound_at last runs at c ≡ true
is-sound last runs at c s = rw (lt-ltb at most_cases s.room, s.next, s.told, s.alone)

good-lost : (at : ℕ) (last : Option ℕ) (runs : Bool) (cs : List RbCase) → good_from at false last runs cs ≡ false
unfolding good_from
good-lost at last runs [] = refl
good-lost at last runs (c ∷ cs) = good-lost (suc at) (Some c.id) (runs || running c) cs

-- one that runs now, or ran before
one_more : (runs : Bool) (c : RbCase) (cs : List RbCase) → runs && running c ≡ false → cond (runs || running c) 1 0 + count_if running cs ≡ cond runs 1 0 + count_if running (c ∷ cs)
unfolding count_if
one_more true c cs e = rw e
one_more false c cs e = by_bool (running c) (λ t. rw t (omega arith)) (λ t. rw t)

good-fine : (at : ℕ) (last : Option ℕ) (runs : Bool) (cs : List RbCase) → at ≤ most_cases → good_from at true last runs cs ≡ true → Fine at last runs cs
unfolding good_from in_order every count_if
good-fine at last true [] h e = record { short = omega arith; order = refl; knows = refl; single = omega arith }
good-fine at last false [] h e = record { short = omega arith; order = refl; knows = refl; single = omega arith }
good-fine at last runs (c ∷ cs) h e =
    by_bool (sound_at last runs at c)
    (λ t. let s = sound-is last runs at c t in
    let f = good-fine (suc at) (Some c.id) (runs || running c) cs s.room (rw t at e) in
    record {
      short = omega (arith, f.short);
      order = and_both (follows last c.id) (above c.id cs) s.next (sym (order-next c.id cs) ∙ f.order);
      knows = and_both (known c) (every known cs) s.told f.knows;
      single = omega (arith, f.single, one_more runs c cs s.alone);
    })
    (λ t. not-both-ways (rw t at e) (good-lost (suc at) (Some c.id) (runs || running c) cs))

-- with one running and one before there are two
alone-is : (runs : Bool) (c : RbCase) (cs : List RbCase) → cond runs 1 0 + count_if running (c ∷ cs) ≤ 1 → runs && running c ≡ false
unfolding count_if
alone-is true c cs h = by_bool (running c) (λ t. absurd (omega (arith, rw t at h))) (λ t. t)
alone-is false c cs h = refl

fine-good : (at : ℕ) (last : Option ℕ) (runs : Bool) (cs : List RbCase) → Fine at last runs cs → good_from at true last runs cs ≡ true
unfolding good_from in_order every
fine-good at last runs [] f = refl
fine-good at last runs (c ∷ cs) f =
    let alone = alone-is runs c cs f.single in
    let s : Sound last runs at c = record {
      room = omega (arith, f.short);
      next = left-of (follows last c.id) (above c.id cs) f.order;
      told = left-of (known c) (every known cs) f.knows;
      alone = alone;
    } in
    rw (is-sound last runs at c s) (fine-good (suc at) (Some c.id) (runs || running c) cs (record {
      short = omega (arith, f.short);
      order = order-next c.id cs ∙ right_of (follows last c.id) (above c.id cs) f.order;
      knows = right_of (known c) (every known cs) f.knows;
      single = omega (arith, f.single, one_more runs c cs alone);
    }))

good-all : (cs : List RbCase) → good_from 0 true None false cs ≡ legal_cases cs
unfolding legal_cases
good-all cs =
    same_truth (good_from 0 true None false cs) (legal_cases cs)
    (λ e. let f = good-fine 0 None false cs (omega arith) e in
    parts-legal cs (record { short = omega (arith, f.short); order = sym (order-first cs) ∙ f.order; knows = f.knows; single = omega (arith, f.single) }))
    (λ e. let l = legal-parts cs e in
    fine-good 0 None false cs (record { short = omega (arith, l.short); order = order-first cs ∙ l.order; knows = l.knows; single = omega (arith, l.single) }))

-- ---- the pass over a whole list
module _ (id : ℕ) (cs : List RbCase) where
  whole : scanned id cs ≡ parts_from id 0 fresh cs
  whole = parts id 0 fresh cs

  pub good-so : (scanned id cs).good ≡ legal_cases cs
  good-so = ap (λ (s : Scan). s.good) whole ∙ good-runs 0 true None None cs ∙ good-all cs

  pub runner-so : (scanned id cs).runner ≡ then_some (some_if running cs) (first_if running cs)
  runner-so = ap (λ (s : Scan). s.runner) whole ∙ runner-from 0 cs ∙ rw (zero-add (first_if running cs))

  pub found-so : (scanned id cs).found ≡ then_some (some_if (has_id id) cs) (record { place = first_if (has_id id) cs; state = state_of id cs })
  found-so = ap (λ (s : Scan). s.found) whole ∙ found-from id 0 cs ∙ rw (zero-add (first_if (has_id id) cs))

  pub counts-so : (n : ℕ) → length cs ≤ most_cases
      → ◌≡◌ {A = RbReport} (record { number = n; passed = (scanned id cs).passed; failed = (scanned id cs).failed; broken = (scanned id cs).broken; not_run = (scanned id cs).not_run })
      (record { number = n; passed = count_if is_passed cs; failed = count_if is_failed cs; broken = count_if is_broken cs; not_run = count_if is_not_run cs })
  counts-so n h =
      let all : (p : RbCase → Bool) → count_from p 0 cs ≡ count_if p cs = λ p. count-from p 0 cs (omega (arith, h)) ∙ zero-add (count_if p cs) in
      rw (whole, all is_passed, all is_failed, all is_broken, all is_not_run)
