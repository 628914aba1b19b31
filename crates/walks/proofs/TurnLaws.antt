-- Laws of `specs/Turn.antt`: what a turn of the comparison tells, and the comparison so far. Assumes nothing.
use Prim.Native.Nat.{ℕ, ◌+◌, ◌*◌, ◌≤◌, ◌<◌}
use mathlib.Core.Logic.{by_cases}
use mathlib.Core.Path.{◌≡◌, refl, sym, ap, subst, ◌∙◌}
use mathlib.Core.List.{List, [], ◌∷◌, ◌++◌, append-nil}
use native.Mathlib.Decide.{dec_lt}
use native.Mathlib.Omega.{arith}
use lib.ListN.{length}
use Rattle.std.specs.Prelude.{Option, Some, None, Result, Ok, Err}
use Rattle.message.specs.Request.{binding_at}
use Rattle.message.specs.declared.form.Refusal.{Refusal}
use Rattle.message.specs.declared.request.Bound.{Bound}
use Rattle.message.proofs.BindingLaws.{Placed, stands}
use Rattle.message.proofs.FormLaws.{clash}
use Rattle.names.specs.Order.{relation}
use Rattle.walks.specs.Walk.{Item, item, walk_of, walk_judged}
use Rattle.walks.specs.Merge.{Entry, only_reference, only_device, differing, merged, merge, contrast_of, entry_octets, list_octets, total}
use Rattle.walks.specs.Turn.{turned, differing as both, turn_of, bound_then, turn_at, found_octets, items}
use Rattle.walks.specs.Compare.{counted}
use Rattle.std.specs.declared.cmp.Ordering.{Ordering}
use Rattle.std.specs.declared.cmp.Ordering.TheVariants.{Less, Equal, Greater}
use Rattle.walks.specs.declared.contrast.Contrast.{Contrast}
use Rattle.walks.specs.declared.turn.Found.TheVariants.{ReferenceOnly, DeviceOnly, Differing}
use Rattle.walks.specs.declared.turn.Turn.{Turn}
use Rattle.walks.specs.declared.compare.Totals.{Totals}
use Rattle.walks.proofs.LeftLaws.{Left, left-start, left_end, Next, left-next}
use Rattle.walks.proofs.MergeLaws.{appended, appended-twice, merge_none, merge-alone, merge-below, merge-same, merge-above, list-one}

some-is : {x y : Turn} → Some x ≡ Some y → x ≡ y
some-is e = cc

-- what a turn tells: none or one entry is found, and the walks go on
pub record Turned (s t : List ℕ) (i j : ℕ) (xs ys : List Item) (u : Turn) : Type 0 where
  pub found : List Entry
  pub mine : List Item
  pub others : List Item
  pub one_left : Left s u.next mine
  pub two-left : Left t u.other others
  pub goes_on : merge xs ys ≡ appended found (merge mine others)
  pub written : found_octets u.found ≡ list_octets found
  pub ones : (n : Totals) → (counted n u.found).reference ≡ n.reference + total 1 found
  pub twos : (n : Totals) → (counted n u.found).device ≡ n.device + total 2 found
  pub threes : (n : Totals) → (counted n u.found).differing ≡ n.differing + total 3 found
  pub far : i + 3 * (total 1 found + total 3 found) ≤ u.next
  pub near : j + 3 * total 2 found ≤ u.other
  pub moves : i + j < u.next + u.other

-- a turn has a binding of each walk
pub turn-inside : (s t : List ℕ) (i j : ℕ) {u : Turn} → turn_at s i t j ≡ Some u → (i < length s) × (j < length t)
unfolding turn_at
turn-inside s t i j {u} e = go (binding_at 3 s i) refl (binding_at 3 t j) refl e
  where
    go : (a : Result Bound Refusal) → binding_at 3 s i ≡ a → (b : Result Bound Refusal) → binding_at 3 t j ≡ b
        → bound_then a (λ x. bound_then b (λ y. Some (turn_of (item s i x.binding) x.next (item t j y.binding) y.next))) ≡ Some u → (i < length s) × (j < length t)
    go (Err r) p b q f = clash (cc)
    go (Ok x) p (Err r) q f = clash (cc)
    go (Ok x) p (Ok y) q f =
        let v : Placed 3 s i x.binding x.next = stands {k = binding_at 3 s i} refl p in
        let w : Placed 3 t j y.binding y.next = stands {k = binding_at 3 t j} refl q in
        (omega (arith, v.goes, v.inside), omega (arith, w.goes, w.inside))

-- a turn before the ends of two walks that were read
module _ {s t : List ℕ} {i j : ℕ} {xs ys : List Item} (v : Left s i xs) (w : Left t j ys) where
  abbrev turn : Next s i xs → Next t j ys → Turn
  turn n m = turn_of (item s i n.binding) n.next (item t j m.binding) m.next

  pub turn_is : (n : Next s i xs) (m : Next t j ys) → turn_at s i t j ≡ Some (turn n m)
  unfolding turn_at
  turn_is n m = rw (n.bound, m.bound)

  at-below : (n : Next s i xs) (m : Next t j ys) → relation (item s i n.binding).name (item t j m.binding).name ≡ Less → Turned s t i j xs ys (turn n m)
  unfolding turn_of entry_octets total
  at-below n m e =
      let x : Item = item s i n.binding in
      let y : Item = item t j m.binding in
      let u : turn n m ≡ turned (Some (ReferenceOnly i)) n.next j = rw e in
      subst (Turned s t i j xs ys) (sym u)
      (record {
        found = only_reference x ∷ [];
        mine = n.tail;
        others = ys;
        one_left = n.onward;
        two-left = w;
        goes_on = rw (n.head, m.head) (merge-below x n.tail y m.tail e);
        written = sym (list-one (only_reference x));
        ones = λ k. omega arith;
        twos = λ k. omega arith;
        threes = λ k. omega arith;
        far = omega (arith, n.place.goes);
        near = omega arith;
        moves = omega (arith, n.place.goes);
      })

  at_above : (n : Next s i xs) (m : Next t j ys) → relation (item s i n.binding).name (item t j m.binding).name ≡ Greater → Turned s t i j xs ys (turn n m)
  unfolding turn_of entry_octets total
  at_above n m e =
      let x : Item = item s i n.binding in
      let y : Item = item t j m.binding in
      let u : turn n m ≡ turned (Some (DeviceOnly j)) i m.next = rw e in
      subst (Turned s t i j xs ys) (sym u)
      (record {
        found = only_device y ∷ [];
        mine = xs;
        others = m.tail;
        one_left = v;
        two-left = m.onward;
        goes_on = rw (n.head, m.head) (merge-above x n.tail y m.tail e);
        written = sym (list-one (only_device y));
        ones = λ k. omega arith;
        twos = λ k. omega arith;
        threes = λ k. omega arith;
        far = omega arith;
        near = omega (arith, m.place.goes);
        moves = omega (arith, m.place.goes);
      })

  at_same : (n : Next s i xs) (m : Next t j ys) → relation (item s i n.binding).name (item t j m.binding).name ≡ Equal → Turned s t i j xs ys (turn n m)
  unfolding turn_of entry_octets list_octets total
  at_same n m e = subst (Turned s t i j xs ys) (sym u) (go (contrast_of x y) refl)
    where
      x : Item
      x = item s i n.binding

      y : Item
      y = item t j m.binding

      u : turn n m ≡ turned (both (contrast_of x y) i j) n.next m.next
      u = rw e

      go : (c : Option Contrast) → contrast_of x y ≡ c → Turned s t i j xs ys (turned (both c i j) n.next m.next)
      go None z =
          record {
            found = [];
            mine = n.tail;
            others = m.tail;
            one_left = n.onward;
            two-left = m.onward;
            goes_on = rw (n.head, m.head) (merge-same x n.tail y m.tail e ∙ rw z);
            written = refl;
            ones = λ k. omega arith;
            twos = λ k. omega arith;
            threes = λ k. omega arith;
            far = omega (arith, n.place.goes);
            near = omega (arith, m.place.goes);
            moves = omega (arith, n.place.goes, m.place.goes);
          }
      go (Some c) z =
          record {
            found = differing x y ∷ [];
            mine = n.tail;
            others = m.tail;
            one_left = n.onward;
            two-left = m.onward;
            goes_on = rw (n.head, m.head) (merge-same x n.tail y m.tail e ∙ rw z);
            written = sym (list-one (differing x y) ∙ rw z);
            ones = λ k. omega arith;
            twos = λ k. omega arith;
            threes = λ k. omega arith;
            far = omega (arith, n.place.goes);
            near = omega (arith, m.place.goes);
            moves = omega (arith, n.place.goes, m.place.goes);
          }

  turn-found : (n : Next s i xs) (m : Next t j ys) → Turned s t i j xs ys (turn n m)
  turn-found n m = by (relation (item s i n.binding).name (item t j m.binding).name) refl
    where
      by : (r : Ordering) → relation (item s i n.binding).name (item t j m.binding).name ≡ r → Turned s t i j xs ys (turn n m)
      by Less e = at-below n m e
      by Equal e = at_same n m e
      by Greater e = at_above n m e

  pub turn-tells : {u : Turn} → turn_at s i t j ≡ Some u → Turned s t i j xs ys u
  turn-tells {u} e =
      let o = turn-inside s t i j e in
      let n = left-next v o.0 in
      let m = left-next w o.1 in
      let q : turn n m ≡ u = some-is (sym (turn_is n m) ∙ e) in
      subst (Turned s t i j xs ys) q (turn-found n m)

-- the comparison up to two offsets: what was found, before what is still to be compared, is the whole
pub record Along (s t : List ℕ) (i j : ℕ) (done : List Entry) : Type 0 where
  pub xs : List Item
  pub ys : List Item
  pub ours : Left s i xs
  pub theirs : Left t j ys
  pub all : merge (items (walk_of s)) (items (walk_of t)) ≡ appended done (merge xs ys)

pub along-start : (s t : List ℕ) → walk_judged (walk_of s) ≡ Ok tt → walk_judged (walk_of t) ≡ Ok tt → Along s t 0 0 []
along-start s t e f = record { xs = items (walk_of s); ys = items (walk_of t); ours = left-start s e; theirs = left-start t f; all = refl }

module _ {s t : List ℕ} {i j : ℕ} {done : List Entry} (a : Along s t i j done) where
  -- a turn
  pub along-turn : {u : Turn} → turn_at s i t j ≡ Some u → Turned s t i j a.xs a.ys u
  along-turn e = turn-tells a.ours a.theirs e

  pub along-all : {u : Turn} (v : Turned s t i j a.xs a.ys u)
      → merge (items (walk_of s)) (items (walk_of t)) ≡ appended (done ++ v.found) (merge v.mine v.others)
  along-all v = a.all ∙ ap (appended done) v.goes_on ∙ sym (appended-twice done v.found (merge v.mine v.others))

  pub along-more : {u : Turn} (v : Turned s t i j a.xs a.ys u) → Along s t u.next u.other (done ++ v.found)
  along-more v =
      record {
        xs = v.mine;
        ys = v.others;
        ours = v.one_left;
        theirs = v.two-left;
        all = along-all v;
      }

  used-up : turn_at s i t j ≡ None → merge a.xs a.ys ≡ merged [] a.xs a.ys
  used-up e =
      by_cases (dec_lt i (length s))
      (λ l. by_cases (dec_lt j (length t))
      (λ k. clash (let z : Some (turn a.ours a.theirs (left-next a.ours l) (left-next a.theirs k)) ≡ None = sym (turn_is a.ours a.theirs (left-next a.ours l) (left-next a.theirs k)) ∙ e in cc))
      (λ k. let f : a.ys ≡ [] = left_end a.theirs (omega arith) in rw f (merge-alone a.xs)))
      (λ l. let f : a.xs ≡ [] = left_end a.ours (omega arith) in rw f (merge_none a.ys))

  -- the end
  pub along-end : turn_at s i t j ≡ None → merge (items (walk_of s)) (items (walk_of t)) ≡ merged done a.xs a.ys
  along-end e = a.all ∙ ap (appended done) (used-up e) ∙ ap (λ (l : List Entry). merged l a.xs a.ys) (append-nil done)
