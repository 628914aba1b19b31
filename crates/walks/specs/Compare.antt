-- What the comparison of two walks gives (request E11), refusals included. Assumes nothing.
use Rattle.std.specs.Prelude.{ℕ, ◌+◌, ◌-◌, ◌*◌, ◌≤◌, ◌≡◌, List, [], ◌∷◌, Bool, true, false, cond, length, eqb, leb, ltb, Option, Some, None, Result, Ok, Err}
use Rattle.octets.specs.Parts.{patch}
use Rattle.message.specs.Refusals.{number_of}
use Rattle.message.specs.declared.form.Refusal.{Refusal}
use Rattle.walks.specs.Walk.{Item, Walk, walk_of}
use Rattle.walks.specs.Merge.{Merged, merge, list_octets, total}
use Rattle.walks.specs.declared.compare.Side.{Side}
use Rattle.walks.specs.declared.compare.Side.TheVariants.{Reference, Device}
use Rattle.walks.specs.declared.compare.NotCompared.{NotCompared}
use Rattle.walks.specs.declared.compare.Totals.{Totals}
use Rattle.walks.specs.declared.compare.Measure.{Measure}
use Rattle.walks.specs.declared.compare.Comparison.{Comparison}
use Rattle.walks.specs.declared.turn.Found.{Found}
use Rattle.walks.specs.declared.turn.Found.TheVariants.{ReferenceOnly, DeviceOnly, Differing}

-- the call's number; the walk whose tail it is or that is at fault, 1 reference, 2 device; the offset of a refusal 4 to 6; where in that walk the tail
-- starts and how long it is; the totals per kind; and the list afterwards
pub record CompareOutcome : Type 0 where
  pub number : ℕ
  pub side : ℕ
  pub offset : ℕ
  pub tail_at : ℕ
  pub tail_len : ℕ
  pub reference_only : ℕ
  pub switch_only : ℕ
  pub differing : ℕ
  pub list : List ℕ

-- "Refusals, each writing nothing and handing back an empty tail of the walk at fault"
abbrev pub refused_with : (number side offset : ℕ) → List ℕ → CompareOutcome
refused_with number side offset list =
    record {
      number = number;
      side = side;
      offset = offset;
      tail_at = 0;
      tail_len = 0;
      reference_only = 0;
      switch_only = 0;
      differing = 0;
      list = list;
    }

-- where the first of these items of a walk starts; at its end where there is none
abbrev pub start_of : List ℕ → List Item → ℕ
start_of s [] = length s
start_of s (x ∷ xs) = x.at

-- "the unread tail of whichever walk outlasts the other ..., and is empty, of the reference walk, if both end together"
abbrev pub outlasts : List Item → Bool
outlasts [] = false
outlasts (y ∷ ys) = true

-- the totals and the list of a comparison, with the tail's walk, its start and its length
abbrev pub completed : (side at len : ℕ) → List ℕ → Merged → CompareOutcome
completed side at len list m =
    record {
      number = 0;
      side = side;
      offset = 0;
      tail_at = at;
      tail_len = len;
      reference_only = total 1 m.entries;
      switch_only = total 2 m.entries;
      differing = total 3 m.entries;
      list = patch list 0 (list_octets m.entries);
    }

unfoldable pub tailed : (reference device list : List ℕ) → Merged → CompareOutcome
tailed reference device list m =
    cond (outlasts m.theirs)
    (completed 2 (start_of device m.theirs) (length device - start_of device m.theirs) list m)
    (completed 1 (start_of reference m.ours) (length reference - start_of reference m.ours) list m)

-- "25 the list is longer than its room": an entry has 20 octets
unfoldable pub listed_in : (reference device list : List ℕ) → Merged → CompareOutcome
listed_in reference device list m =
    cond (leb (20 * length m.entries) (length list)) (tailed reference device list m) (refused_with 25 1 0 list)

abbrev pub walk_then : {A : Type 0} → Walk → (Refusal → A) → (List Item → A) → A
walk_then (Err r) stop go = stop r
walk_then (Ok xs) stop go = go xs

-- "the reference walk judged first, 25 last"
unfoldable pub compared : (reference device list : List ℕ) → CompareOutcome
compared reference device list =
    walk_then (walk_of reference) (λ r. refused_with (number_of r.reason) 1 r.at list)
    (λ xs. walk_then (walk_of device) (λ r. refused_with (number_of r.reason) 2 r.at list)
    (λ ys. listed_in reference device list (merge xs ys)))

-- the number of a side
abbrev pub side_number : Side → ℕ
side_number Reference = 1
side_number Device = 2

-- the side that a number names: any number but the device's is the reference's
abbrev pub side_of : ℕ → Side
side_of n = cond (eqb n (side_number Device)) Device Reference

-- the totals with what a turn found
abbrev pub counted : Totals → Option Found → Totals
counted t None = t
counted t (Some (ReferenceOnly i)) = record t { reference = t.reference + 1 }
counted t (Some (DeviceOnly j)) = record t { device = t.device + 1 }
counted t (Some (Differing c i j)) = record t { differing = t.differing + 1 }

-- the comparison as the code holds it: the totals, and where each walk stopped
abbrev pub totals_of : Merged → Totals
totals_of m = record { reference = total 1 m.entries; device = total 2 m.entries; differing = total 3 m.entries }

abbrev pub measured : (reference device : List ℕ) → Merged → Measure
measured reference device m = record { totals = totals_of m; i = start_of reference m.ours; j = start_of device m.theirs }

-- a result of the code and the list afterwards as an outcome; the tail are the octets from `from` to `to` of its side's walk
abbrev pub outcome_of : Result Comparison NotCompared → List ℕ → CompareOutcome
outcome_of (Ok c) list =
    record {
      number = 0;
      side = side_number c.side;
      offset = 0;
      tail_at = c.from;
      tail_len = c.to - c.from;
      reference_only = c.totals.reference;
      switch_only = c.totals.device;
      differing = c.totals.differing;
      list = list;
    }
outcome_of (Err (NotCompared.Walk side r)) list = refused_with (number_of r.reason) (side_number side) r.at list
outcome_of (Err NotCompared.ListLong) list = refused_with 25 1 0 list

-- what the code's measure is: the totals are small enough to be added, and the device's walk outlasts the other exactly where it did not stop at its end
pub record Measures (reference device : List ℕ) (m : Merged) (r : Measure) : Type 0 where
  pub exact : r ≡ measured reference device m
  pub few : 3 * (r.totals.reference + r.totals.differing) ≤ length reference
  pub fewer : 3 * r.totals.device ≤ length device
  pub ours : r.i ≤ length reference
  pub theirs : r.j ≤ length device
  pub longer : outlasts m.theirs ≡ ltb r.j (length device)

-- the walk that a side names
abbrev pub walk_of_side : Side → (reference device : List ℕ) → List ℕ
walk_of_side Reference reference device = reference
walk_of_side Device reference device = device

-- the tail lies within its walk
pub record Tailed (c : Comparison) (reference device : List ℕ) : Type 0 where
  pub ordered : c.from ≤ c.to
  pub within : c.to ≤ length (walk_of_side c.side reference device)
