-- What is left of a walk that was read, from an offset on: its bindings, one after the other. Assumes nothing.
use Prim.Native.Nat.{ℕ, suc, ◌+◌, ◌-◌, ◌≤◌, ◌<◌}
use mathlib.Core.Logic.{by_cases}
use mathlib.Core.Path.{◌≡◌, refl, sym, ◌∙◌}
use mathlib.Core.List.{List, [], ◌∷◌}
use mathlib.Core.Bool.{Bool, true, false, cond}
use native.Mathlib.Decide.{dec_lt}
use native.Mathlib.Omega.{arith}
use borrow.Author.Tests.{lt-ltb, le-ltb}
use lib.ListN.{length}
use lib.Dec.{ltb}
use Rattle.std.specs.Prelude.{Result, Ok, Err}
use Rattle.names.specs.Order.{below}
use Rattle.message.specs.Request.{binding_at, read_to}
use Rattle.message.specs.declared.request.Binding.{Binding}
use Rattle.message.specs.declared.form.Refusal.{Refusal}
use Rattle.message.specs.declared.request.Bound.{Bound}
use Rattle.message.proofs.BindingLaws.{Placed, stands}
use Rattle.message.proofs.FormLaws.{clash}
use Rattle.walks.specs.Walk.{Item, item, name_of, Walk, item_before, item_then, not_ascending, walk_from, walk_of, walk_judged}
use Rattle.walks.specs.Turn.{items}
use Rattle.walks.specs.Compare.{start_of, outlasts}
use Rattle.walks.proofs.WalkLaws.{from_end, from_step}

-- from an offset on the walk s is the items xs
pub record Left (s : List ℕ) (at : ℕ) (xs : List Item) : Type 0 where
  pub last : List ℕ
  pub left : ℕ
  pub enough : length s ≤ at + left
  pub rest : walk_from s left last at ≡ Ok xs
  pub inside : at ≤ length s

pub left-start : (s : List ℕ) → walk_judged (walk_of s) ≡ Ok tt → Left s 0 (items (walk_of s))
left-start s = go (walk_of s) refl
  where
    go : (w : Walk) → walk_of s ≡ w → walk_judged w ≡ Ok tt → Left s 0 (items w)
    go (Err r) p e = clash (cc)
    go (Ok xs) p e = unfold walk_of in record { last = []; left = length s; enough = omega arith; rest = p; inside = omega arith }

-- nothing is left at the end
pub left_end : {s : List ℕ} {at : ℕ} {xs : List Item} → Left s at xs → length s ≤ at → xs ≡ []
left_end {s} {at} {xs} w h =
    let p : Ok [] ≡ Ok xs = sym (from_end s w.left w.last at h) ∙ w.rest in
    cc

-- before the end a binding is left, and what follows it
pub record Next (s : List ℕ) (at : ℕ) (xs : List Item) : Type 0 where
  pub binding : Binding
  pub next : ℕ
  pub tail : List Item
  pub bound : binding_at 3 s at ≡ Ok (read_to binding next)
  pub head : xs ≡ item s at binding ∷ tail
  pub onward : Left s next tail
  pub place : Placed 3 s at binding next

module _ {s : List ℕ} {at : ℕ} {xs : List Item} (w : Left s at xs) (h : at < length s) where
  binding-left : (b : Binding) (next : ℕ) → binding_at 3 s at ≡ Ok (read_to b next) → (r : Walk) → walk_from s (w.left - 1) (name_of s b) next ≡ r
      → item_before (item s at b) r ≡ Ok xs → Next s at xs
  binding-left b next e (Err r) p q = clash (cc)
  binding-left b next e (Ok ys) p q =
      let v : Placed 3 s at b next = stands {k = binding_at 3 s at} refl e in
      record {
        binding = b;
        next = next;
        tail = ys;
        bound = e;
        head = cc;
        onward = record { last = name_of s b; left = w.left - 1; enough = omega (arith, w.enough, v.goes); rest = p; inside = v.inside };
        place = v;
      }

  step_left : (k : Result Bound Refusal) → binding_at 3 s at ≡ k → item_then s w.last at k (walk_from s (w.left - 1)) ≡ Ok xs → Next s at xs
  step_left (Err r) e p = clash (cc)
  step_left (Ok d) e p = go (below w.last (name_of s d.binding)) p
    where
      go : (t : Bool) → cond t (item_before (item s at d.binding) (walk_from s (w.left - 1) (name_of s d.binding) d.next)) (Err not_ascending) ≡ Ok xs → Next s at xs
      go true q = binding-left d.binding d.next e (walk_from s (w.left - 1) (name_of s d.binding) d.next) refl q
      go false q = clash (cc)

  pub left-next : Next s at xs
  left-next =
      let l : w.left ≡ suc (w.left - 1) = omega (arith, w.enough) in
      step_left (binding_at 3 s at) refl (rw (← from_step s (w.left - 1) w.last at h, ← l) w.rest)

-- an offset is where the first item that is left starts
pub left_at : {s : List ℕ} {at : ℕ} {xs : List Item} → Left s at xs → at ≡ start_of s xs
left_at {s} {at} {xs} w =
    by_cases (dec_lt at (length s))
    (λ l. let n = left-next w l in rw n.head)
    (λ l. let e : xs ≡ [] = left_end w (omega arith) in rw e (omega (arith, w.inside)))

-- something is left exactly where the offset is not the end
pub left-longer : {s : List ℕ} {at : ℕ} {xs : List Item} → Left s at xs → outlasts xs ≡ ltb at (length s)
left-longer {s} {at} {xs} w =
    by_cases (dec_lt at (length s))
    (λ l. let n = left-next w l in rw (n.head, lt-ltb at (length s) l))
    (λ l. let e : xs ≡ [] = left_end w (omega arith) in rw (e, le-ltb at (length s) (omega arith)))
