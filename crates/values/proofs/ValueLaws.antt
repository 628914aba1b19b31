-- The value of each object type, by its place in the object table. Assumes nothing.
use mathlib.Core.Path.{◌≡◌, refl, sym, ap, ◌∙◌}
use mathlib.Core.Bool.{Bool, true, false, cond, not, ◌&&◌}
use mathlib.Core.List.{List, [], ◌∷◌, map}
use Prim.Native.Nat.{ℕ, zero, suc, ◌+◌, ◌/◌, ◌≤◌, ◌<◌}
use native.Mathlib.Nat.{zero-add}
use native.Mathlib.Omega.{arith}
use lib.Dec.{eqb, leb}
use lib.ListN.{length, get_or, take}
use borrow.Author.Tests.{leb-true, eq-eqb, ne_eqb}
use Rattle.octets.specs.Numbers.{be_octets}
use Rattle.octets.specs.Ports.{port_octets}
use Rattle.octets.proofs.BoolLaws.{both, by_bool}
use Rattle.octets.proofs.NumberLaws.{length-be_octets}
use Rattle.octets.proofs.PortLaws.{length-port-octets}
use Rattle.names.specs.Index.{up_from}
use Rattle.names.specs.Table.{object_count, objects, object_at}
use Rattle.names.specs.Places.{bridge_address, num_ports, bridge_type, num_vlans, vlan_num_deletes, pair_bridge_state, static_allowed, static_state, vlan_name, vlan_egress, vlan_forbidden, vlan_row_status}
use Rattle.names.specs.declared.Shape.{Shape}
use Rattle.names.specs.declared.Shape.TheVariants.{Scalar, Port, PortPriority, Vlan, Static, Pair}
use Rattle.names.specs.declared.table.Syntax.{Syntax}
use Rattle.names.specs.declared.table.Syntax.TheVariants.{Integer, Text, Unsigned, Counter, Ports}
use Rattle.block.specs.Content.{Content}
use Rattle.block.specs.Cells.{cells_of}
use Rattle.block.specs.Tables.{shape_of}
use Rattle.block.specs.declared.tables.Table.{Table}
use Rattle.block.specs.declared.tables.Table.TheVariants.{Vlan as vlan, Static as static, Pair as pair}
use Rattle.answer.specs.Tables.{first_column}
use Rattle.answer.specs.Values.{Value, vlan_of, static_of, values, value_of}
use Rattle.answer.specs.Get.{elem}
use Rattle.answer.specs.Judge.{tag_of}
use Rattle.values.specs.Standing.{is_fixed}

up_at : {A : Type 0} (f : ℕ → A) (d : A) (a n i : ℕ) → i < n → get_or (map f (up_from a n)) i d ≡ f (a + i)
unfolding up_from
up_at f d a zero i h = absurd (omega arith)
up_at f d a (suc n) zero h = let e : a + 0 ≡ a = omega arith in rw e
up_at f d a (suc n) (suc i) h = let e : suc a + i ≡ a + suc i = omega arith in rw (← e) (up_at f d (suc a) n i (omega arith))

-- two rules that say the same of each place of the object table: a fact that is computed
abbrev Agree : {A : Type 0} → (ℕ → A) → (ℕ → A) → Type 0
Agree f g = map f (up_from 0 object_count) ≡ map g (up_from 0 object_count)

at_place : {A : Type 0} (f g : ℕ → A) → Agree f g → (i : ℕ) → i < object_count → f i ≡ g i
at_place {A} f g e i h =
    let l : get_or (map f (up_from 0 object_count)) i (f 0) ≡ f i = rw zero-add at (up_at f (f 0) 0 object_count i h) in
    let r : get_or (map g (up_from 0 object_count)) i (f 0) ≡ g i = rw zero-add at (up_at g (f 0) 0 object_count i h) in
    sym l ∙ ap (λ (x : List A). get_or x i (f 0)) e ∙ r

-- the same of the places that pass a test
where-passed : {A : Type 0} (t : ℕ → Bool) (f g : ℕ → A) → Agree f (λ i. cond (t i) (g i) (f i)) → (i : ℕ) → i < object_count → t i ≡ true → f i ≡ g i
where-passed t f g e i h p = at_place f (λ j. cond (t j) (g j) (f j)) e i h ∙ rw p

-- the read-only objects that are read from the block
abbrev pub in_block : List ℕ
in_block = bridge_address ∷ num_ports ∷ bridge_type ∷ num_vlans ∷ vlan_num_deletes ∷ []

module _ (c : Content) (k : ℕ) where
  -- the other read-only objects of rows that always stand
  abbrev not_read : ℕ → Bool
  not_read i = (eqb (cells_of (object_at i)) 0 && is_fixed (object_at i).shape) && not (elem i in_block)

  abbrev from_range : ℕ → Value
  from_range i =
      cond (eqb (object_at i).low (object_at i).high) (tag_of (object_at i).syntax, be_octets 4 (object_at i).low) (0x21, be_octets 4 k)

  ranges-computed : Agree (λ i. value_of c i k) (λ i. cond (not_read i) (from_range i) (value_of c i k))
  unfolding values objects up_from elem
  ranges-computed = refl

  module _ (i : ℕ) (h : i < object_count) (z : cells_of (object_at i) ≡ 0) (f : is_fixed (object_at i).shape ≡ true) (n : elem i in_block ≡ false) where
    value-range : value_of c i k ≡ from_range i
    value-range = where-passed not_read (λ j. value_of c j k) from_range ranges-computed i h (rw (eq-eqb (cells_of (object_at i)) 0 z, f, n))

    -- a read-only object whose range is one number holds it
    pub value-only : (object_at i).low ≡ (object_at i).high → value_of c i k ≡ (tag_of (object_at i).syntax, be_octets 4 (object_at i).low)
    value-only e = value-range ∙ rw (eq-eqb (object_at i).low (object_at i).high e)

    -- the others hold the port's number
    pub value-port : ((object_at i).low ≡ (object_at i).high → ⊥) → value_of c i k ≡ (0x21, be_octets 4 k)
    value-port e = value-range ∙ rw (ne_eqb (object_at i).low (object_at i).high e)

-- the last column of a growing table
abbrev pub last_column : Table → ℕ
last_column vlan = vlan_row_status
last_column static = static_state
last_column pair = pair_bridge_state

abbrev in_columns : Table → ℕ → Bool
in_columns t i = leb (first_column t) i && leb i (last_column t)

-- what the shape of an object says of its place and of its greatest value
abbrev shape_rule : Shape → ℕ → ℕ → Bool
shape_rule Scalar i high = true
shape_rule Port i high = true
shape_rule PortPriority i high = leb high 255
shape_rule Vlan i high = in_columns vlan i
shape_rule Static i high = in_columns static i
shape_rule Pair i high = in_columns pair i

shapes-computed : Agree (λ i. shape_rule (object_at i).shape i (object_at i).high) (λ i. true)
unfolding objects up_from
shapes-computed = refl

module _ (i : ℕ) (h : i < object_count) where
  shape-rule : (s : Shape) → (object_at i).shape ≡ s → shape_rule s i (object_at i).high ≡ true
  shape-rule s e = rw (← e) (at_place (λ j. shape_rule (object_at j).shape j (object_at j).high) (λ j. true) shapes-computed i h)

  in-columns : (t : Table) → shape_rule (shape_of t) i (object_at i).high ≡ true → in_columns t i ≡ true
  in-columns vlan e = e
  in-columns static e = e
  in-columns pair e = e

  -- the columns of the rows of a growing table
  pub column-place : (t : Table) → (object_at i).shape ≡ shape_of t → (first_column t ≤ i) × (i ≤ last_column t)
  column-place t e =
      let p = both (leb (first_column t) i) (leb i (last_column t)) (in-columns t (shape-rule (shape_of t) e)) in
      (leb-true (first_column t) i p.0, leb-true i (last_column t) p.1)

  -- a priority has one octet
  pub priority-high : (object_at i).shape ≡ PortPriority → (object_at i).high ≤ 255
  priority-high e = leb-true (object_at i).high 255 (shape-rule PortPriority e)

-- which syntax an object has, as tests
abbrev pub is_number : Syntax → Bool
is_number Integer = true
is_number Text = false
is_number Unsigned = true
is_number Counter = true
is_number Ports = false

abbrev is_text : Syntax → Bool
is_text Integer = false
is_text Text = true
is_text Unsigned = false
is_text Counter = false
is_text Ports = false

abbrev is_ports : Syntax → Bool
is_ports Integer = false
is_ports Text = false
is_ports Unsigned = false
is_ports Counter = false
is_ports Ports = true

-- how many octets a value has, by the syntax of its object
module _ (c : Content) (k : ℕ) where
  numbers-computed : Agree (λ i. length (value_of c i k).1) (λ i. cond (is_number (object_at i).syntax) 4 (length (value_of c i k).1))
  unfolding values objects up_from be_octets
  numbers-computed = refl

  abbrev text_at : ℕ → List ℕ
  text_at i = cond (eqb i vlan_name) (take (vlan_of c k).len (vlan_of c k).name) (cond (eqb i bridge_address) c.address (be_octets 6 (k / 256)))

  texts-computed : Agree (λ i. (value_of c i k).1) (λ i. cond (is_text (object_at i).syntax) (text_at i) (value_of c i k).1)
  unfolding values objects up_from
  texts-computed = refl

  abbrev ports_at : ℕ → ℕ
  ports_at i =
      cond (eqb i static_allowed) (static_of c k).allowed
      (cond (eqb i vlan_egress) (vlan_of c k).egress (cond (eqb i vlan_forbidden) (vlan_of c k).forbidden (vlan_of c k).untagged))

  ports-computed : Agree (λ i. (value_of c i k).1) (λ i. cond (is_ports (object_at i).syntax) (port_octets c.ports (ports_at i)) (value_of c i k).1)
  unfolding values objects up_from
  ports-computed = refl

  module _ (i : ℕ) (h : i < object_count) where
    -- a number has four
    pub number_size : (x : Syntax) → (object_at i).syntax ≡ x → is_number x ≡ true → length (value_of c i k).1 ≡ 4
    number_size x e t =
        where-passed (λ j. is_number (object_at j).syntax) (λ j. length (value_of c j k).1) (λ j. 4) numbers-computed i h (rw e t)

    -- a port set as many as the bridge's ports need
    pub ports-size : c.ports ≤ 64 → (object_at i).syntax ≡ Ports → length (value_of c i k).1 ≡ (c.ports + 7) / 8
    ports-size few e =
        ap length (where-passed (λ j. is_ports (object_at j).syntax) (λ j. (value_of c j k).1) (λ j. port_octets c.ports (ports_at j)) ports-computed i h (rw e))
        ∙ length-port-octets c.ports (ports_at i) few

    -- a text that is no VLAN's name is an address
    pub address-size : length c.address ≡ 6 → (object_at i).syntax ≡ Text → (i ≡ vlan_name → ⊥) → length (value_of c i k).1 ≡ 6
    address-size six e n =
        ap length (where-passed (λ j. is_text (object_at j).syntax) (λ j. (value_of c j k).1) text_at texts-computed i h (rw e))
        ∙ rw (ne_eqb i vlan_name n) (by_bool (eqb i bridge_address) (λ t. rw t six) (λ f. rw f (length-be_octets 6 (k / 256))))
