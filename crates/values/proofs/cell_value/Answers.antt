-- `values::cell_value` meets its contract. Assumes nothing.
use Prim.Native.Nat.{ℕ, ◌+◌, ◌≤◌}
use mathlib.Core.Path.{◌≡◌, refl, ◌∙◌}
use mathlib.Core.Bool.{true, ◌||◌}
use mathlib.Core.Logic.{◌⊎◌, inl, inr}
use native.Mathlib.Omega.{arith}
use lib.Dec.{eqb}
use borrow.Author.Tests.{eqb-true}
use Rattle.names.specs.Places.{regen_user_priority, traffic_class}
use Rattle.names.specs.Table.{objects, object_at}
use Rattle.names.specs.declared.Shape.TheVariants.{PortPriority}
use Rattle.block.specs.Layout.{many_cells}
use Rattle.block.specs.Cells.{cells_in, first_cell}
use Rattle.block.proofs.RoundLaws.{legal-valid}
use Rattle.octets.proofs.BoolLaws.{by_bool}
use Rattle.values.proofs.KeyLaws.{present-in, cell-key, cell-there, priority-key, priority-cell}
use Rattle.values.proofs.cell_value.Goals as goal

-- which of the two maps the object has
which : (i : ℕ) → (eqb i regen_user_priority || eqb i traffic_class) ≡ true → (i ≡ regen_user_priority) ⊎ (i ≡ traffic_class)
which i e = by_bool (eqb i regen_user_priority) (λ t. inl (eqb-true i regen_user_priority t)) (λ f. inr (eqb-true i traffic_class (rw f at e)))

map-there : (i : ℕ) → (i ≡ regen_user_priority) ⊎ (i ≡ traffic_class) → first_cell i + 512 ≤ many_cells
unfolding objects cells_in
map-there i (inl e) = rw e (omega arith)
map-there i (inr e) = rw e (omega arith)

of-priority : (i : ℕ) → (i ≡ regen_user_priority) ⊎ (i ≡ traffic_class) → (object_at i).shape ≡ PortPriority
unfolding objects
of-priority i (inl e) = rw e
of-priority i (inr e) = rw e

pub priority_map-requires : goal.priority_map-requires
priority_map-requires c =
    ((legal-valid c.args.block.now c.requires.0).2, c.requires.1.0, map-there c.args.x.place (which c.args.x.place c.if-x.true))

pub in_map-requires : goal.in_map-requires
in_map-requires c =
    priority-key (present-in c.args.block.now c.args.x.place c.args.x.key c.requires.0 c.requires.1.0 c.requires.1.1) c.requires.2 c.args.x.place refl (of-priority c.args.x.place (which c.args.x.place c.if-x.true))

pub returns-then-x : goal.returns-then-x
returns-then-x c =
    c.in_map.ensures ∙ rw c.priority_map.ensures
    (priority-cell (present-in c.args.block.now c.args.x.place c.args.x.key c.requires.0 c.requires.1.0 c.requires.1.1) c.requires.2 c.args.x.place refl (of-priority c.args.x.place (which c.args.x.place c.if-x.true)))

pub cell_of-requires : goal.cell_of-requires
cell_of-requires c =
    (c.requires.1.0, omega (arith, cell-key (present-in c.args.block.now c.args.x.place c.args.x.key c.requires.0 c.requires.1.0 c.requires.1.1) c.requires.2))

pub cell-requires : goal.cell-requires
cell-requires c =
    ((legal-valid c.args.block.now c.requires.0).2, rw c.cell_of.ensures (cell-there (present-in c.args.block.now c.args.x.place c.args.x.key c.requires.0 c.requires.1.0 c.requires.1.1) c.requires.2))

pub returns : goal.returns
returns c = c.cell.ensures ∙ rw c.cell_of.ensures
