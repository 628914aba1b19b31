-- What the code reads and writes, in the words of `specs/Turn.antt`. Assumes nothing.
use Prim.Native.Nat.{ℕ, ◌+◌, ◌-◌, ◌≤◌}
use mathlib.Core.Path.{◌≡◌, refl, sym, ap, ◌∙◌}
use mathlib.Core.List.{List, [], ◌∷◌}
use native.Mathlib.Omega.{arith}
use lib.ListN.{length, take, drop, length-append}
use Rattle.std.specs.Prelude.{Option, Some, None, Result, Ok, Err}
use Rattle.std.specs.Result.{result_ok}
use Rattle.octets.specs.Numbers.{be_octets}
use Rattle.octets.specs.Parts.{part, patch}
use Rattle.octets.proofs.NumberLaws.{length-be_octets}
use Rattle.octets.proofs.PartLaws.{patch-three}
use Rattle.names.specs.SubIds.{subids}
use Rattle.names.proofs.RelationLaws.{below-is}
use Rattle.message.specs.declared.form.Refusal.{Refusal}
use Rattle.message.specs.declared.request.Bound.{Bound}
use Rattle.message.proofs.FormLaws.{clash}
use Rattle.names.specs.Order.{below, relation}
use Rattle.walks.specs.Walk.{item}
use Rattle.walks.specs.Contrast.{contrasted, contrast}
use Rattle.walks.specs.Merge.{twenty}
use Rattle.walks.specs.Turn.{turned, differing, bound_then, turn_of, found_octets}
use Rattle.walks.specs.declared.contrast.Contrast.{Contrast}
use Rattle.std.specs.Ordering.{is_lt}
use Rattle.std.specs.declared.cmp.Ordering.{Ordering}
use Rattle.std.specs.declared.cmp.Ordering.TheVariants.{Less, Equal, Greater}
use Rattle.walks.specs.declared.turn.Turn.{Turn}
use Rattle.walks.specs.declared.turn.Found.{Found}
use Rattle.walks.specs.declared.turn.Found.TheVariants.{ReferenceOnly, DeviceOnly, Differing}

-- what `&s[n..n + k]` lends
lent : (s : List ℕ) (n k : ℕ) → take (n + k - n) (drop n s) ≡ part s n k
lent s n k = let e : n + k - n ≡ k = omega arith in rw e

-- the names of n octets from a and of m octets from b, as `relate` is lent them
pub ascends-is : (s : List ℕ) (a n b m : ℕ) {r : Ordering}
    → r ≡ relation (subids (take (a + n - a) (drop a s))) (subids (take (b + m - b) (drop b s)))
    → is_lt r ≡ below (subids (part s a n)) (subids (part s b m))
ascends-is s a n b m e = ap is_lt e ∙ rw (lent s a n, lent s b m) (sym (below-is (subids (part s a n)) (subids (part s b m))))

-- the answers of a turn at two bindings, by how their names stand
module _ (s t : List ℕ) (i : ℕ) (a : Bound) (j : ℕ) (b : Bound) {r : Ordering}
    (e : r ≡ relation (subids (take (a.binding.name + a.binding.size - a.binding.name) (drop a.binding.name s))) (subids (take (b.binding.name + b.binding.size - b.binding.name) (drop b.binding.name t)))) where
  names_stand : relation (item s i a.binding).name (item t j b.binding).name ≡ r
  names_stand = sym (rw (lent s a.binding.name a.binding.size, lent t b.binding.name b.binding.size) at e)

  pub turn_below : r ≡ Less → turned (Some (ReferenceOnly i)) a.next j ≡ turn_of (item s i a.binding) a.next (item t j b.binding) b.next
  unfolding turn_of
  turn_below f = rw (names_stand ∙ f)

  pub turn-above : r ≡ Greater → turned (Some (DeviceOnly j)) i b.next ≡ turn_of (item s i a.binding) a.next (item t j b.binding) b.next
  unfolding turn_of
  turn-above f = rw (names_stand ∙ f)

  pub turn-same : {d : Option Contrast} → r ≡ Equal
      → d ≡ contrast (subids (take (a.binding.name + a.binding.size - a.binding.name) (drop a.binding.name s))) a.binding.tag (take (a.binding.content + a.binding.len - a.binding.content) (drop a.binding.content s)) b.binding.tag (take (b.binding.content + b.binding.len - b.binding.content) (drop b.binding.content t))
      → turned (differing d i j) a.next b.next ≡ turn_of (item s i a.binding) a.next (item t j b.binding) b.next
  unfolding turn_of
  turn-same {d} f g =
      let p : contrast (item s i a.binding).name a.binding.tag (item s i a.binding).content b.binding.tag (item t j b.binding).content ≡ d =
      sym (rw (lent s a.binding.name a.binding.size, lent s a.binding.content a.binding.len, lent t b.binding.content b.binding.len) at g) in
      rw (names_stand ∙ f, p)

-- what `ok` leaves of a binding's reading
pub no-bound : (k : Result Bound Refusal) (go : Bound → Option Turn) → None ≡ result_ok k → None ≡ bound_then k go
no-bound (Ok b) go e = clash (cc)
no-bound (Err r) go e = refl

pub a-bound : {b : Bound} (k : Result Bound Refusal) → Some b ≡ result_ok k → k ≡ Ok b
a-bound (Ok d) e = cc
a-bound (Err r) e = clash (cc)

-- the octets of an entry
length-twenty : (k : ℕ) (c : Contrast) (r d : ℕ) → length (twenty k c.ours c.theirs c.first r d) ≡ 20
length-twenty k c r d = simp length-append (omega (arith, length-be_octets 8 r, length-be_octets 8 d))

pub found-size : (o : Option Found) {f : Found} → o ≡ Some f → length (found_octets o) ≡ 20
found-size o {f} e = rw e (go f)
  where
    go : (f : Found) → length (found_octets (Some f)) ≡ 20
    go (ReferenceOnly i) = length-twenty 1 (contrasted 0 0 0) i 0
    go (DeviceOnly j) = length-twenty 2 (contrasted 0 0 0) 0 j
    go (Differing c i j) = length-twenty 3 c i j

pub twenty-put : (b : List ℕ) (at k : ℕ) (c : Contrast) (r d : ℕ) → at + 20 ≤ length b
    → patch (patch (patch b at (k ∷ c.ours ∷ c.theirs ∷ c.first ∷ [])) (at + 4) (be_octets 8 r)) (at + 12) (be_octets 8 d) ≡ patch b at (twenty k c.ours c.theirs c.first r d)
twenty-put b at k c r d h =
    patch-three b at (k ∷ c.ours ∷ c.theirs ∷ c.first ∷ []) (be_octets 8 r) (be_octets 8 d) (at + 4) (at + 12)
    refl (omega (arith, length-be_octets 8 r)) (omega (arith, length-be_octets 8 r, length-be_octets 8 d))
