-- `verdict::faults::after_attributes` meets its contract. The invariant: the kept bindings left take the row from what is reached to the row after all. Assumes nothing.
use mathlib.Core.Path.{◌≡◌}
use mathlib.Core.Bool.{not}
use mathlib.Core.Option.{Option}
use mathlib.Core.List.{List}
use Prim.Native.Nat.{ℕ}
use lib.ListN.{drop}
use Rattle.std.specs.Prelude.{Some}
use Rattle.names.specs.declared.model.Model.{Model}
use Rattle.block.specs.declared.rows.VlanRow.{VlanRow}
use Rattle.answer.specs.Writes.{is_status, those, play_row}
use Rattle.block.specs.declared.tables.Table.TheVariants.{Vlan as vlan}
use Rattle.answer.specs.Tables.{step}
use Rattle.answer.specs.Set.{writes_to}
use Rattle.verdict.specs.Kept.{meant_by_with, sets_of}
use Rattle.verdict.proofs.faults.PortSetLaws.{Reached}
use Rattle.verdict.proofs.faults.after_attributes.Given as goal

abbrev pub invariant-loop-k : goal.invariant-loop-k
invariant-loop-k g l =
    (n : g.row.E.Denot → ℕ) (m : Model) (s : List ℕ) (o : Option VlanRow) → Some l.initial.after ≡ sets_of o
    → Reached n m (λ c. not (is_status c)) s l.key (drop l.k-index l.kept) (Some l.after) (play_row (step m vlan) l.key (those (λ c. not (is_status c)) (writes_to vlan (meant_by_with n s l.kept))) o)
