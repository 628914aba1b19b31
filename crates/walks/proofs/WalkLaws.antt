-- Laws of `specs/Walk.antt`: the reading of a walk turn by turn, and what is left of a walk that was read. Assumes nothing.
use Prim.Native.Nat.{ℕ, zero, suc, ◌+◌, ◌-◌, ◌≤◌, ◌<◌}
use mathlib.Core.Path.{◌≡◌, refl, sym, ap, ◌∙◌}
use mathlib.Core.List.{List, []}
use mathlib.Core.Bool.{true, false}
use native.Mathlib.Omega.{arith}
use borrow.Author.Tests.{le-leb, lt-leb}
use lib.ListN.{length}
use Rattle.std.specs.Prelude.{Result, Ok, Err}
use Rattle.octets.specs.Parts.{part}
use Rattle.names.specs.SubIds.{subids}
use Rattle.names.specs.Order.{below}
use Rattle.message.specs.Request.{binding_at, read_to}
use Rattle.message.specs.declared.form.Refusal.{Refusal}
use Rattle.message.specs.declared.request.Binding.{Binding}
use Rattle.message.specs.declared.request.Bound.{Bound}
use Rattle.message.proofs.BindingLaws.{stands}
use Rattle.walks.specs.Walk.{Item, item, name_of, Walk, item_before, item_then, not_ascending, walk_from, walk_of, walk_judged}

module _ (s : List ℕ) where
  pub from_end : (left : ℕ) (last : List ℕ) (at : ℕ) → length s ≤ at → walk_from s left last at ≡ Ok []
  unfolding walk_from
  from_end zero last at h = refl
  from_end (suc left) last at h = rw (le-leb (length s) at h)

  pub from_step : (left : ℕ) (last : List ℕ) (at : ℕ) → at < length s → walk_from s (suc left) last at ≡ item_then s last at (binding_at 3 s at) (walk_from s left)
  unfolding walk_from
  from_step left last at h = rw (lt-leb (length s) at h)

-- a walk is read up to an offset: what is left decides the answer
pub record Sofar (s last : List ℕ) (at : ℕ) : Type 0 where
  pub left : ℕ
  pub enough : length s ≤ at + left
  pub rest : walk_judged (walk_from s left last at) ≡ walk_judged (walk_of s)

pub sofar-none : (s : List ℕ) → Sofar s (subids (part s 0 0)) 0
unfolding walk_of subids
sofar-none s = record { left = length s; enough = omega arith; rest = refl }

judged-before : (x : Item) (w : Walk) → walk_judged (item_before x w) ≡ walk_judged w
judged-before x (Err r) = refl
judged-before x (Ok xs) = refl

module _ {s last : List ℕ} {at : ℕ} (w : Sofar s last at) where
  pub sofar-all : length s ≤ at → Ok tt ≡ walk_judged (walk_of s)
  sofar-all h = sym (ap walk_judged (from_end s w.left last at h)) ∙ w.rest

  module _ (h : at < length s) {k : Result Bound Refusal} (e : k ≡ binding_at 3 s at) where
    turn : walk_judged (item_then s last at k (walk_from s (w.left - 1))) ≡ walk_judged (walk_of s)
    turn =
        let l : w.left ≡ suc (w.left - 1) = omega (arith, w.enough) in
        let p : walk_from s w.left last at ≡ item_then s last at k (walk_from s (w.left - 1)) = rw (e, ← from_step s (w.left - 1) last at h, ← l) in
        sym (ap walk_judged p) ∙ w.rest

    pub sofar-refused : {r : Refusal} → k ≡ Err r → Err r ≡ walk_judged (walk_of s)
    sofar-refused f = rw f at turn

    pub sofar-falls : {b : Binding} {next : ℕ} → k ≡ Ok (read_to b next) → below last (name_of s b) ≡ false → Err not_ascending ≡ walk_judged (walk_of s)
    sofar-falls f g = rw (f, g) at turn

    pub sofar-more : {b : Binding} {next : ℕ} → k ≡ Ok (read_to b next) → below last (name_of s b) ≡ true → Sofar s (name_of s b) next
    sofar-more {b} {next} f g =
        let t : walk_judged (item_before (item s at b) (walk_from s (w.left - 1) (name_of s b) next)) ≡ walk_judged (walk_of s) = rw (f, g) at turn in
        record {
          left = w.left - 1;
          enough = omega (arith, w.enough, (stands e f).goes);
          rest = sym (judged-before (item s at b) (walk_from s (w.left - 1) (name_of s b) next)) ∙ t;
        }
