-- `values::value_of` meets its contract. Assumes nothing.
use mathlib.Core.Logic.{◌⊎◌, inl, inr}
use mathlib.Core.Path.{◌≡◌, sym, ap, ◌∙◌}
use mathlib.Core.Bool.{true}
use Prim.Native.Nat.{◌≤◌}
use native.Mathlib.Omega.{arith}
use Rattle.names.specs.Table.{object_at}
use Rattle.names.specs.declared.Shape.{Shape}
use Rattle.names.specs.declared.Shape.TheVariants.{Scalar, Port, PortPriority, Vlan, Static, Pair}
use Rattle.block.specs.Cells.{cells_of}
use Rattle.block.specs.Image.{content_of}
use Rattle.block.specs.declared.tables.Table.TheVariants.{Vlan as vlan, Static as static, Pair as pair}
use Rattle.answer.specs.Values.{keys_in}
use Rattle.answer.specs.Get.{elem}
use Rattle.values.specs.Standing.{is_fixed}
use Rattle.answer.proofs.StoredLaws.{value_cell}
use Rattle.values.proofs.ValueLaws.{column-place}
use Rattle.values.proofs.KeyLaws.{on-elem}
use borrow.Author.Rules.{rules}
use Prim.Native.Nat.{ℕ}
use Rattle.block.specs.Content.{Content}
use Rattle.answer.specs.Values.{keys_on}
use Rattle.names.specs.declared.table.ObjectType.{ObjectType}
use Rattle.values.proofs.value_of.Goals as goal

-- the shape of the object
shaped : (o p : ObjectType) (x : Shape) → o ≡ p → o.shape ≡ x → p.shape ≡ x
shaped o p x e f = rw (← e) f

-- the key of an object of a shape is one of that shape's
keyed : (content : Content) (o : ObjectType) (k : ℕ) (x : Shape) → o.shape ≡ x → elem k (keys_on content o) ≡ true → elem k (keys_in content x) ≡ true
keyed content o k x e h = rw (← e) (on-elem content o k h).1

-- what `read_only` asks of an object without cells, by its shape
standing : (x : Shape) → (x ≡ Scalar) ⊎ (x ≡ Port) ⊎ (x ≡ PortPriority) → is_fixed x ≡ true
standing x (inl e) = rw e
standing x (inr (inl e)) = rw e
standing x (inr (inr e)) = rw e

pub cell_value-requires : goal.cell_value-requires
cell_value-requires c =
    let n : c.cells_of.result ≡ cells_of (object_at c.args.x.place) = c.cells_of.ensures ∙ rw c.object-o.ensures in
    search rules

pub returns-then-cells_of-ne0 : goal.returns-then-cells_of-ne0
returns-then-cells_of-ne0 c =
    let o = c.object-o.ensures in
    let content = content_of c.args.block.now in
    let some : 1 ≤ cells_of (object_at c.args.x.place) = omega (arith, c.cells_of.ensures, ap cells_of c.object-o.ensures) in
    c.number.ensures
    ∙ rw (c.tag_of.ensures, c.cell_value.ensures, o) (sym (value_cell content c.args.x.key c.args.x.place some))

pub vlan_value-requires : goal.vlan_value-requires
vlan_value-requires c =
    let e = shaped _ (object_at c.args.x.place) Vlan c.object-o.ensures c.in-Vlan.is in
    let p = column-place c.args.x.place c.requires.1.0 vlan e in
    let k = keyed (content_of c.args.block.now) (object_at c.args.x.place) c.args.x.key Vlan e c.requires.1.1 in
    search rules

pub static_value-requires : goal.static_value-requires
static_value-requires c =
    let e = shaped _ (object_at c.args.x.place) Static c.object-o.ensures c.in-Static.is in
    let p = column-place c.args.x.place c.requires.1.0 static e in
    let k = keyed (content_of c.args.block.now) (object_at c.args.x.place) c.args.x.key Static e c.requires.1.1 in
    search rules

pub pair_value-requires : goal.pair_value-requires
pair_value-requires c =
    let e = shaped _ (object_at c.args.x.place) Pair c.object-o.ensures c.in-Pair.is in
    let p = column-place c.args.x.place c.requires.1.0 pair e in
    let k = keyed (content_of c.args.block.now) (object_at c.args.x.place) c.args.x.key Pair e c.requires.1.1 in
    search rules

pub read_only-requires : goal.read_only-requires
read_only-requires c =
    let o = c.object-o.ensures in
    let none : cells_of (object_at c.args.x.place) ≡ 0 = omega (arith, c.cells_of.ensures, ap cells_of o) in
    let fixed : is_fixed (object_at c.args.x.place).shape ≡ true = rw o at (standing c.object-o.result.shape c.in-Scalar.is) in
    search rules
