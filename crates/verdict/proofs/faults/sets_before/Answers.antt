-- `verdict::faults::sets_before` meets its contract. Assumes nothing.
use mathlib.Core.Path.{sym, ◌∙◌}
use lib.ListN.{length-map}
use Rattle.block.specs.Lookup.{no_vlan}
use Rattle.block.proofs.FindLaws.{find_at, find-lookup, find-missing}
use Rattle.block.proofs.KeepLaws.{rows_ok-rising}
use Rattle.block.proofs.RoundLaws.{legal-valid, legal-sized}
use Rattle.block.proofs.ValidParts.{valid-parts}
use Rattle.block.specs.declared.tables.Table.TheVariants.{Vlan as vlan}
use Rattle.instances.proofs.SearchLaws.{rows-ascend}
use Rattle.verdict.proofs.faults.sets_before.Goals as goal

pub find_row-requires : goal.find_row-requires
find_row-requires c = (legal-sized _ c.requires, rows-ascend _ c.requires vlan)

pub vlan-row-requires : goal.vlan-row-requires
vlan-row-requires c = (
  legal-sized _ c.requires,
  rw length-map at (find_at _ _ _ (sym c.find_row.ensures ∙ c.in-Ok.is)).0,
)

pub returns-in-Ok : goal.returns-in-Ok
returns-in-Ok c = rw (c.vlan-row.ensures, find-lookup _ _ _ no_vlan (sym c.find_row.ensures ∙ c.in-Ok.is))

pub returns-in-Err : goal.returns-in-Err
returns-in-Err c =
    let v = valid-parts _ (legal-valid _ c.requires).0 in
    rw (find-missing _ _ _ (rows_ok-rising _ _ _ 0 _ (v.rows_in vlan)) (sym c.find_row.ensures ∙ c.in-Err.is))
