-- Keys that exist: the row that has one, and the cell that one has. Assumes nothing.
use mathlib.Core.Path.{◌≡◌, refl, sym, ap, subst, ◌∙◌}
use mathlib.Core.Bool.{Bool, true, false, ◌||◌, false≢true}
use mathlib.Core.List.{List, [], ◌∷◌}
use Prim.Native.Nat.{ℕ, zero, suc, ◌+◌, ◌-◌, ◌*◌, ◌/◌, ◌%◌, ◌≤◌, ◌<◌}
use native.Mathlib.Nat.{mod-eq_of_lt}
use native.Mathlib.Omega.{arith}
use lib.Dec.{eqb, leb, ltb}
use lib.ListN.{length, get_or, take, drop, get_or-map, length-map}
use lib.Seq.{get_or-take, get_or-drop}
use borrow.Author.Tests.{eqb-true, leb-true, ltb-true}
use Rattle.octets.proofs.BoolLaws.{both, by_bool}
use Rattle.names.specs.Devices.{has}
use Rattle.names.specs.Index.{can_have, index, limit}
use Rattle.names.specs.Table.{object_count, object_at}
use Rattle.names.specs.declared.Shape.{Shape}
use Rattle.names.specs.declared.Shape.TheVariants.{Scalar, Port, PortPriority, Vlan, Static, Pair}
use Rattle.names.specs.declared.table.Access.{Access}
use Rattle.names.specs.declared.table.Access.TheVariants.{ReadOnly, ReadWrite}
use Rattle.names.proofs.RuleLaws.{takes-range}
use Rattle.names.specs.declared.table.ObjectType.{ObjectType}
use Rattle.names.specs.declared.model.Model.{Model}
use Rattle.names.proofs.IndexLaws.{can-scalar, can-port, can-priority}
use Rattle.names.proofs.IndexLaws as keys
use Rattle.octets.proofs.AllLaws.{all-at}
use Rattle.block.specs.Layout.{many_cells}
use Rattle.block.specs.Content.{Content, model_of}
use Rattle.block.specs.Cells.{shape_cells, cells_of, first_cell, cell_of, map_from, priority_map}
use Rattle.block.specs.Lookup.{find_key, keys_of, lookup, no_vlan}
use Rattle.block.specs.Image.{content_of}
use Rattle.block.specs.Tables.{rows_of}
use Rattle.block.specs.Valid.{name_ok, vlan_ok, valid, legal}
use Rattle.block.specs.declared.tables.Table.{Table}
use Rattle.block.specs.declared.tables.Table.TheVariants.{Vlan as vlan}
use Rattle.std.specs.Prelude.{Ok, Err}
use Rattle.block.proofs.ValidParts.{valid-parts}
use Rattle.block.proofs.RoundLaws.{legal-valid}
use Rattle.block.proofs.FindLaws.{find_at, find-lookup, find_absent}
use Rattle.block.proofs.KeepLaws.{HasCell, rows_ok-lookup, cell-place, cells-in}
use Rattle.answer.specs.Values.{keys_in, keys_on, or_else, cell_at}
use Rattle.answer.specs.Get.{elem}
use Rattle.answer.proofs.GetLaws.{keys-can, keys-small, rows-rise}
use Rattle.values.specs.Standing.{is_fixed}
use Rattle.values.proofs.ValueLaws.{priority-high}

-- a key that exists stands at some place
elem-place : (ks : List ℕ) (k : ℕ) → elem k ks ≡ true → (j : ℕ) × (j < length ks) × (get_or ks j 0 ≡ k)
unfolding elem
elem-place [] k e = absurd (false≢true e)
elem-place (q ∷ ks) k e = go (elem-place ks k) (eqb k q) refl e
  where
    go : (elem k ks ≡ true → (j : ℕ) × (j < length ks) × (get_or ks j 0 ≡ k)) → (t : Bool) → eqb k q ≡ t → t || elem k ks ≡ true
        → (j : ℕ) × (j < length (q ∷ ks)) × (get_or (q ∷ ks) j 0 ≡ k)
    go f true p r = (0, omega arith, sym (eqb-true k q p))
    go f false p r = let w = f r in (suc w.0, omega (arith, w.1), w.2)

-- a key that exists is below its shape's limit
pub key-small : (c : Content) (s : Shape) (k : ℕ) → valid c ≡ true → elem k (keys_in c s) ≡ true → k < limit s
key-small c s k ok e =
    let w = elem-place (keys_in c s) k e in
    rw w.2 at (keys.all-at (limit s) (keys_in c s) w.0 (keys-small c ok s) w.1)

-- a key of an object exists where the device has the object, and is one of its shape
pub on-elem : (c : Content) (o : ObjectType) (k : ℕ) → elem k (keys_on c o) ≡ true → (has c.device o ≡ true) × (elem k (keys_in c o.shape) ≡ true)
unfolding elem
on-elem c o k e = by_bool (has c.device o) (λ t. (t, rw t at e)) (λ f. absurd (false≢true (rw f at e)))

-- and back
pub elem-on : (c : Content) (o : ObjectType) (k : ℕ) → has c.device o ≡ true → elem k (keys_in c o.shape) ≡ true → elem k (keys_on c o) ≡ true
elem-on c o k own e = rw own e

module _ {R : Type 0} (k : ℕ) (es : List (ℕ × R)) (i : ℕ) (e : find_key k (keys_of es) ≡ Ok i) where
  -- a key that is found stands at the place of a row
  pub row-place : i < length es
  row-place = omega (arith, (find_at k (keys_of es) i e).0, length-map es (λ (x : ℕ × R). x.0))

  -- and that row is the key's
  pub row-found : (d : ℕ × R) → or_else d.1 (lookup k es) ≡ (get_or es i d).1
  row-found d = ap (or_else d.1) (find-lookup k es i d e)

-- the name of a VLAN row that is found
pub name-found : (c : Content) (k i : ℕ) → valid c ≡ true → find_key k (keys_of c.vlans) ≡ Ok i
    → name_ok (get_or c.vlans i no_vlan).1.len (get_or c.vlans i no_vlan).1.name ≡ true
unfolding vlan_ok
name-found c k i ok e =
    let r = (get_or c.vlans i no_vlan).1 in
    let passed = (rows_ok-lookup (model_of c) Vlan (vlan_ok (model_of c)) 0 c.vlans k r ((valid-parts c ok).rows_in vlan) (find-lookup k c.vlans i no_vlan e)).1 in
    (both (name_ok r.len r.name) _ (both (eqb r.status 1 || eqb r.status 2) _ passed).1).0

-- row p of a priority map is the last octets of the eight cells from cell k + 8 * p on
map_at : (cells : List ℕ) (k n p u : ℕ) → p < n → u < 8 → get_or (get_or (map_from cells k n) p []) u 0 ≡ get_or cells (k + (8 * p + u)) 0 % 256
unfolding map_from
map_at cells k zero p u h l = absurd (omega arith)
map_at cells k (suc n) zero u h l =
    let e : k + (8 * 0 + u) ≡ k + u = omega arith in
    get_or-map (λ v. v % 256) (take 8 (drop k cells)) u 0 ∙ rw (get_or-take 8 (drop k cells) u 0 l, get_or-drop k cells u 0, e)
map_at cells k (suc n) (suc p) u h l =
    let e : k + 8 + (8 * p + u) ≡ k + (8 * suc p + u) = omega arith in
    rw (← e) (map_at cells (k + 8) n p u (omega arith) l)

-- rows of an object that has cells stand always
cells-fixed : (a : Access) (s : Shape) → 1 ≤ shape_cells a s → is_fixed s ≡ true
cells-fixed ReadOnly s h = absurd (omega arith)
cells-fixed ReadWrite Scalar h = refl
cells-fixed ReadWrite Port h = refl
cells-fixed ReadWrite PortPriority h = refl
cells-fixed ReadWrite Vlan h = absurd (omega arith)
cells-fixed ReadWrite Static h = absurd (omega arith)
cells-fixed ReadWrite Pair h = absurd (omega arith)

-- the keys of rows that always stand are small
fixed-small : (m : Model) (k : ℕ) (s : Shape) → m.ports ≤ 64 → is_fixed s ≡ true → can_have m s (index s k) ≡ true → k < 520
fixed-small m k Scalar h f e = omega (arith, eqb-true k 0 (rw can-scalar at e))
fixed-small m k Port h f e = omega (arith, leb-true k m.ports (both (leb 1 k) (leb k m.ports) (rw can-port at e)).1)
fixed-small m k PortPriority h f e = omega (arith, ltb-true k (8 * m.ports + 8) (both (leb 8 k) (ltb k (8 * m.ports + 8)) (rw can-priority at e)).1)
fixed-small m k Vlan h f e = absurd (false≢true f)
fixed-small m k Static h f e = absurd (false≢true f)
fixed-small m k Pair h f e = absurd (false≢true f)

-- an instance that exists: the object at place i of the object table, and a key that exists
pub record Present (c : Content) (i k : ℕ) : Type 0 where
  pub ok : valid c ≡ true
  pub place : i < object_count
  pub there : elem k (keys_on c (object_at i)) ≡ true

-- the same of a legal block
pub present-in : (b : List ℕ) (i k : ℕ) → legal b ≡ true → i < object_count → elem k (keys_on (content_of b) (object_at i)) ≡ true → Present (content_of b) i k
present-in b i k e h t = record { ok = (legal-valid b e).0; place = h; there = t }

module _ {c : Content} {i k : ℕ} (x : Present c i k) where
  few : c.ports ≤ 64
  few = (valid-parts c x.ok).few_ports

  key-can : can_have (model_of c) (object_at i).shape (index (object_at i).shape k) ≡ true
  key-can =
      let s = (object_at i).shape in
      let w = elem-place (keys_in c s) k (on-elem c (object_at i) k x.there).1 in
      subst (λ (q : ℕ). can_have (model_of c) s (index s q) ≡ true) w.2 (all-at _ 0 (keys_in c s) w.0 (keys-can c x.ok s) w.1)

  -- the key of a row that always stands
  pub fixed-key : is_fixed (object_at i).shape ≡ true → k < 520
  fixed-key f = fixed-small (model_of c) k (object_at i).shape few f key-can

  module _ (p : 1 ≤ cells_of (object_at i)) where
    key-cell : HasCell (model_of c) i k
    key-cell = record { cells = p; possible = key-can }

    -- the key of an object that has cells
    pub cell-key : k < 520
    cell-key = fixed-key (cells-fixed (object_at i).access (object_at i).shape p)

    -- its cell is one of the cells
    pub cell-there : cell_of i k < many_cells
    cell-there = cell-place (model_of c) i k few key-cell

    module _ (j : ℕ) (q : i ≡ j) (s : (object_at j).shape ≡ PortPriority) where
      shape_is : (object_at i).shape ≡ PortPriority
      shape_is = rw q s

      -- the key of a port and a priority
      pub priority-key : (8 ≤ k) × (k < 520)
      priority-key = (leb-true 8 k (both (leb 8 k) (ltb k (8 * c.ports + 8)) (rw (shape_is, can-priority) at key-can)).0, cell-key)

      -- a priority has one octet, so that its map holds the cell's number
      pub priority-cell : get_or (get_or (priority_map c.cells j) (k / 8 - 1) []) (k % 8) 0 ≡ cell_at i c k
      priority-cell =
          let o = object_at i in
          let v = cell_at i c k in
          let in-range = leb-true v o.high (both (leb o.low v) (leb v o.high) (takes-range c.edition o v (cells-in c x.ok i k key-cell (on-elem c (object_at i) k x.there).0))).1 in
          let small : v ≤ 255 = omega (arith, priority-high i x.place shape_is) in
          let at : 8 * (k / 8 - 1) + k % 8 ≡ k - 8 = omega (arith, priority-key) in
          let here : cell_of i k ≡ first_cell i + (k - 8) = rw shape_is in
          rw (← q) (map_at c.cells (first_cell i) 64 (k / 8 - 1) (k % 8) (omega (arith, priority-key)) (omega arith)
          ∙ rw (at, ← here) (mod-eq_of_lt (omega arith)))
