-- Which keys there are and which is the first above a name, by the place of a key among those of a table's rows. Assumes nothing.
use mathlib.Core.Path.{◌≡◌, refl, sym, ap, ◌∙◌}
use mathlib.Core.Bool.{true, false, or-true}
use mathlib.Core.List.{List, [], ◌∷◌}
use Prim.Native.Nat.{ℕ, zero, suc, ◌+◌, ◌-◌, ◌*◌, ◌≤◌, ◌<◌}
use native.Mathlib.Nat.{not-suc-le-zero, le_of_suc-le-suc}
use native.Mathlib.Omega.{arith}
use lib.Dec.{eqb}
use lib.ListN.{length, get_or, take, drop}
use borrow.Author.Tests.{eq-eqb, ne_eqb}
use Rattle.std.specs.Prelude.{Ok, Err, is_ok}
use Rattle.names.specs.SubIds.{subids}
use Rattle.names.specs.Index.{bases, weight, limit, first_above, first_from, least}
use Rattle.names.specs.declared.Shape.{Shape}
use Rattle.names.specs.declared.Shape.TheVariants.{Scalar, Port, PortPriority, Vlan, Static, Pair}
use Rattle.names.proofs.SubIdLaws.{subids-drop, subids-end}
use Rattle.names.proofs.SideLaws.{rest-is}
use Rattle.names.proofs.IndexLaws.{AllBelow, first-from}
use Rattle.octets.specs.Ascending.{Rising}
use Rattle.block.specs.Image.{content_of}
use Rattle.block.specs.Valid.{legal}
use Rattle.block.specs.Lookup.{Place, Ascending, find_key, keys_of}
use Rattle.block.specs.Tables.{rows_of, shape_of}
use Rattle.block.specs.declared.tables.Table.{Table}
use Rattle.block.specs.declared.tables.Table.TheVariants.{Vlan as vlan, Static as static, Pair as pair}
use Rattle.block.specs.Content.{Content}
use Rattle.instances.specs.declared.Keys.{Keys}
use Rattle.instances.specs.declared.Keys.TheVariants.{Standing, Growing}
use Rattle.instances.specs.Places.{keys_for, keys_at}
use Rattle.block.proofs.ValidParts.{valid-parts, by-table}
use Rattle.block.proofs.RoundLaws.{legal-valid}
use Rattle.block.proofs.FindLaws.{rising-ascends, find_at, find_absent}
use Rattle.answer.specs.Values.{keys_in}
use Rattle.answer.specs.Get.{elem}
use Rattle.answer.proofs.GetLaws.{rows-rise, keys-small}

-- a legal block
module _ (b : List ℕ) (ok : legal b ≡ true) where
  -- has 1 to 64 ports
  pub legal-ports : (1 ≤ (content_of b).ports) × ((content_of b).ports ≤ 64)
  legal-ports =
      let v = valid-parts (content_of b) (legal-valid b ok).0 in
      (v.some_ports, v.few_ports)

  -- the keys of each growing table ascend
  pub rows-rising : (t : Table) → Rising (keys_of (rows_of t (content_of b)))
  rows-rising t = rows-rise (content_of b) (legal-valid b ok).0 t

  pub rows-ascend : (t : Table) → Ascending (keys_of (rows_of t (content_of b)))
  rows-ascend t = rising-ascends (keys_of (rows_of t (content_of b))) (rows-rising t)

  -- and are below the limit of its shape
  rows-small : (t : Table) → AllBelow (limit (shape_of t)) (keys_of (rows_of t (content_of b)))
  rows-small =
      let small : (s : Shape) → AllBelow (limit s) (keys_in (content_of b) s) = keys-small (content_of b) (legal-valid b ok).0 in
      by-table (λ t. AllBelow (limit (shape_of t)) (keys_of (rows_of t (content_of b)))) (small Vlan) (small Static) (small Pair)

  -- the first key of a table above the rest of a name is the first that is at least the least key above it
  pub first-row-from : (t : Table) (rest : List ℕ) → first_above rest (shape_of t) (keys_of (rows_of t (content_of b))) ≡ first_from (least (bases (shape_of t)) rest) (keys_of (rows_of t (content_of b)))
  first-row-from t rest = first-from (shape_of t) rest (keys_of (rows_of t (content_of b))) (rows-small t)

-- no sub-id is left past a name's end
pub rest-none : (s : List ℕ) → subids (take (length s - length s) (drop (length s) s)) ≡ []
rest-none s = ap subids (rest-is s (length s)) ∙ subids-end s (length s) (omega arith)

-- past its first n sub-ids are the others
pub rest-past : (s : List ℕ) (n : ℕ) → subids (take (length s - 4 * n) (drop (4 * n) s)) ≡ drop n (subids s)
rest-past s n = ap subids (rest-is s (4 * n)) ∙ subids-drop n s

-- every shape has at least 2 ^ 16 keys
pub limit-room : (s : Shape) → 65536 ≤ limit s
unfolding weight
limit-room Scalar = omega arith
limit-room Port = omega arith
limit-room PortPriority = omega arith
limit-room Vlan = omega arith
limit-room Static = omega arith
limit-room Pair = omega arith

-- the keys that the code goes by are those of the shape
pub keys-there : (c : Content) (s : Shape) (q : Keys) → q ≡ keys_for s c.ports → keys_at c q ≡ keys_in c s
keys-there c s q e = ap (keys_at c) e ∙ go s
  where
    go : (s : Shape) → keys_at c (keys_for s c.ports) ≡ keys_in c s
    go Scalar = refl
    go Port = refl
    go PortPriority = refl
    go Vlan = refl
    go Static = refl
    go Pair = refl

-- those that always stand are few
pub standing-few : (s : Shape) (n a k : ℕ) → n ≤ 64 → Standing a k ≡ keys_for s n → a + k ≤ 65536
standing-few Scalar n a k h e = let p : a ≡ 0 = cc in let q : k ≡ 1 = cc in omega arith
standing-few Port n a k h e = let p : a ≡ 1 = cc in let q : k ≡ n = cc in omega arith
standing-few PortPriority n a k h e = let p : a ≡ 8 = cc in let q : k ≡ 8 * n = cc in omega arith
standing-few Vlan n a k h e = cc
standing-few Static n a k h e = cc
standing-few Pair n a k h e = cc

-- a table whose rows have a shape
pub growing-shape : (s : Shape) (n : ℕ) (t : Table) → Growing t ≡ keys_for s n → shape_of t ≡ s
growing-shape Scalar n t e = cc
growing-shape Port n t e = cc
growing-shape PortPriority n t e = cc
growing-shape Vlan n t e = let p : t ≡ vlan = cc in rw p
growing-shape Static n t e = let p : t ≡ static = cc in rw p
growing-shape Pair n t e = let p : t ≡ pair = cc in rw p

elem_at : (k : ℕ) (ks : List ℕ) (i : ℕ) → i < length ks → get_or ks i 0 ≡ k → elem k ks ≡ true
unfolding elem
elem_at k [] i h e = absurd (not-suc-le-zero h)
elem_at k (q ∷ ks) zero h e = rw (eq-eqb k q (sym e))
elem_at k (q ∷ ks) (suc i) h e = rw (elem_at k ks i (le_of_suc-le-suc h) e) (or-true (eqb k q))

elem-none : (k : ℕ) (ks : List ℕ) → ((j : ℕ) → get_or ks j 0 ≡ k → j < length ks → ⊥) → elem k ks ≡ false
unfolding elem
elem-none k [] f = refl
elem-none k (q ∷ ks) f = rw (ne_eqb k q (λ e. f 0 (sym e) (omega arith))) (elem-none k ks (λ j e l. f (suc j) e (omega arith)))

-- a key is one of ascending keys where it is found at a place
pub found-is-there : (k : ℕ) (ks : List ℕ) → Rising ks → is_ok (find_key k ks) ≡ elem k ks
found-is-there k ks r = go (find_key k ks) refl
  where
    go : (p : Place) → find_key k ks ≡ p → is_ok p ≡ elem k ks
    go (Ok i) e = let t = find_at k ks i e in sym (elem_at k ks i t.0 t.1)
    go (Err i) e = sym (elem-none k ks (find_absent k ks i r e).1)
