-- The rule of values: what it comes to in each edition (`specs/Theorems.antt`), and what callers use of it. Assumes nothing.
use mathlib.Core.Path.{◌≡◌, refl, sym, ap, ◌∙◌}
use mathlib.Core.Bool.{Bool, true, false, cond, not, ◌&&◌, ◌||◌, false≢true, and-true, and-false}
use Prim.Native.Nat.{ℕ, suc, ◌+◌, ◌*◌, ◌/◌, ◌%◌, ◌≤◌, ◌<◌}
use native.Mathlib.Nat.{zero-add, mod-one, mul-mod_left, mul-le-mul_right, div-lt_iff_lt-mul, div-add-mod'}
use native.Mathlib.Omega.{arith}
use lib.Dec.{eqb, leb, ltb, lit≤}
use mathlib.Core.List.{List, [], ◌∷◌}
use borrow.Author.Tests.{leb-true, le-leb, eqb-true, ne_eqb, ltb-true}
use Rattle.octets.specs.Lists.{every}
use Rattle.octets.proofs.BoolLaws.{both}
use Rattle.names.specs.Table.{objects, object_at}
use Rattle.names.specs.Places.{stp_priority, stp_port_priority, sr_port_largest_frame}
use Rattle.names.specs.Rule.{old_edition, new_edition, step_in, in_range, in_steps, largest_frames, is_one_of, is_frame, in_frames, takes}
use Rattle.names.specs.Theorems.{SixteenSteps, NewPriorities, LargestFrames, OthersKeepRanges, OldRanges}
use Rattle.names.specs.declared.table.ObjectType.{ObjectType}
use Rattle.names.proofs.TableLaws.{every-at, every_from, every-from}

all-stepped : every (λ o. ltb 0 o.step) objects ≡ true
unfolding objects every
all-stepped = refl

-- every object has a step, the smallest 1
pub step-positive : (i : ℕ) → 0 < (object_at i).step
step-positive i = ltb-true 0 (object_at i).step (every-at (λ o. ltb 0 o.step) all-stepped refl i)

-- a value is in its range whatever the edition
pub takes-range : (e : ℕ) (o : ObjectType) (v : ℕ) → takes e o v ≡ true → in_range o v ≡ true
takes-range e o v h = (both (in_range o v) (in_steps (step_in e o) v && in_frames o v) h).0

pub step-one : (v : ℕ) → in_steps 1 v ≡ true
step-one v = rw (mod-one v)

missing-plain : (b : Bool) → (b || true) ≡ true
missing-plain true = refl
missing-plain false = refl

is-not : (b : Bool) → not b ≡ true → b ≡ false
is-not true h = absurd (false≢true h)
is-not false h = refl

-- an object without steps and frames takes its range
pub takes-unstepped : (e : ℕ) (o : ObjectType) (v : ℕ) → step_in e o ≡ 1 → o.frames ≡ false → takes e o v ≡ in_range o v
takes-unstepped e o v h f = rw (h, step-one v, f, and-true (in_range o v))

-- an object without steps has the step 1 in both editions
pub step_is : (e : ℕ) (o : ObjectType) → o.step ≡ 1 → step_in e o ≡ 1
step_is e o h = go (eqb e new_edition)
  where
    go : (b : Bool) → cond b o.step 1 ≡ 1
    go true = h
    go false = refl

pub step-in-positive : (e : ℕ) (o : ObjectType) → 0 < o.step → 0 < step_in e o
step-in-positive e o h = go (eqb e new_edition)
  where
    go : (b : Bool) → 0 < cond b o.step 1
    go true = h
    go false = lit≤ tt

-- all objects but one take other numbers than the largest frames
abbrev unframed : ℕ → ObjectType → Bool
unframed i o = eqb i sr_port_largest_frame || not o.frames

all-unframed : every_from unframed 0 objects ≡ true
unfolding objects
all-unframed = refl

pub plain-frames : (i : ℕ) → (i ≡ sr_port_largest_frame → ⊥) → (object_at i).frames ≡ false
plain-frames i p =
    let e : unframed (0 + i) (object_at i) ≡ true = every-from unframed 0 objects all-unframed (λ j. missing-plain (eqb j sr_port_largest_frame)) i in
    let d : unframed i (object_at i) ≡ true = rw zero-add at e in
    is-not (object_at i).frames (rw (ne_eqb i sr_port_largest_frame p) at d)

pub old-ranges : OldRanges
old-ranges i v p = takes-unstepped old_edition (object_at i) v refl (plain-frames i p)

-- all objects but the two priorities have the step 1
abbrev plain : ℕ → ObjectType → Bool
plain i o = (eqb i stp_priority || eqb i stp_port_priority) || eqb o.step 1

all_plain : every_from plain 0 objects ≡ true
unfolding objects
all_plain = refl

pub plain_step : (i : ℕ) → (i ≡ stp_priority → ⊥) → (i ≡ stp_port_priority → ⊥) → (object_at i).step ≡ 1
plain_step i p q =
    let e : plain (0 + i) (object_at i) ≡ true = every-from plain 0 objects all_plain (λ j. missing-plain (eqb j stp_priority || eqb j stp_port_priority)) i in
    let d : plain i (object_at i) ≡ true = rw zero-add at e in
    eqb-true (object_at i).step 1 (rw (ne_eqb i stp_priority p, ne_eqb i stp_port_priority q) at d)

pub others-keep-ranges : OthersKeepRanges
others-keep-ranges i v p q f =
    takes-unstepped new_edition (object_at i) v (step_is new_edition (object_at i) (plain_step i p q)) (plain-frames i f)

-- every number of the list is in a range that the list is in
in_list : (l h v : ℕ) (xs : List ℕ) → every (λ x. leb l x && leb x h) xs ≡ true → is_one_of v xs ≡ true → leb l v && leb v h ≡ true
unfolding every
in_list l h v [] a e = absurd (false≢true e)
in_list l h v (x ∷ xs) a e = go (eqb v x) refl (in_list l h v xs (both (leb l x && leb x h) (every (λ x. leb l x && leb x h) xs) a).1) e
  where
    go : (t : Bool) → eqb v x ≡ t → (is_one_of v xs ≡ true → leb l v && leb v h ≡ true) → (t || is_one_of v xs) ≡ true → leb l v && leb v h ≡ true
    go true q f p = rw (eqb-true v x q) (both (leb l x && leb x h) (every (λ x. leb l x && leb x h) xs) a).0
    go false q f p = f p

frames-within : every (λ x. leb 516 x && leb x 65535) largest_frames ≡ true
unfolding every
frames-within = refl

-- a largest frame is in its range
frame-range : (v : ℕ) → is_frame v ≡ true → leb 516 v && leb v 65535 ≡ true
unfolding is_frame
frame-range v e = in_list 516 65535 v largest_frames frames-within e

takes-frame : (e v : ℕ) → takes e (object_at sr_port_largest_frame) v ≡ is_frame v
unfolding objects
takes-frame e v =
    rw (step_is e (object_at sr_port_largest_frame) refl, step-one v) (go (is_frame v) refl)
  where
    go : (t : Bool) → is_frame v ≡ t → (leb 516 v && leb v 65535) && is_frame v ≡ is_frame v
    go true h = rw (h, frame-range v h)
    go false h = rw (h, and-false (leb 516 v && leb v 65535))

fresh-frame : is_frame 1470 ≡ true
unfolding is_frame
fresh-frame = refl

pub largest-frames : LargestFrames
largest-frames = (takes-frame, refl, fresh-frame)

-- the numbers below 16 steps that are in steps, and those that are not
stepwise : (o : ObjectType) (s : ℕ) → 0 < s → o.low ≡ 0 → suc o.high ≡ 16 * s → o.step ≡ s → o.frames ≡ false → SixteenSteps o s
stepwise o s p low high step plain = λ v. (to v, from v)
  where
    to : (v : ℕ) → takes new_edition o v ≡ true → (k : ℕ) × (k ≤ 15) × (v ≡ k * s)
    to v h =
        let t = both (in_range o v) (in_steps o.step v && in_frames o v) h in
        let r : v ≤ o.high = leb-true v o.high (both (leb o.low v) (leb v o.high) t.0).1 in
        let m : v % s ≡ 0 = ap (λ (d : ℕ). v % d) (sym step) ∙ eqb-true (v % o.step) 0 (both (in_steps o.step v) (in_frames o v) t.1).0 in
        let q : v / s < 16 = (div-lt_iff_lt-mul p).1 (omega (arith, r, high)) in
        (v / s, omega arith, omega (arith, div-add-mod' v s, m))

    from : (v : ℕ) → ((k : ℕ) × (k ≤ 15) × (v ≡ k * s)) → takes new_edition o v ≡ true
    from v (k, few, e) =
        let r : v ≤ o.high = omega (arith, mul-le-mul_right s few, e, high) in
        let m : v % s ≡ 0 = ap (λ (d : ℕ). d % s) e ∙ mul-mod_left k s in
        rw (low, le-leb 0 v (omega arith), le-leb v o.high r, step, m, plain)

pub new-priorities : NewPriorities
unfolding objects
new-priorities = (stepwise (object_at stp_priority) 4096 (lit≤ tt) refl refl refl refl, stepwise (object_at stp_port_priority) 16 (lit≤ tt) refl refl refl refl)
