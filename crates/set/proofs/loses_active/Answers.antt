-- `set::loses_active` meets its contract. Assumes nothing.
use mathlib.Core.Path.{◌≡◌, sym, ◌∙◌}
use lib.ListN.{get_or}
use Rattle.std.specs.Prelude.{Ok, Err}
use Rattle.block.specs.Content.{model_of}
use Rattle.block.specs.Image.{content_of}
use Rattle.block.specs.Lookup.{keys_of, find_key, no_vlan}
use Rattle.block.proofs.FindLaws.{find-lookup, find-missing}
use Rattle.block.proofs.RoundLaws.{legal-sized}
use Rattle.block.specs.declared.tables.Table.TheVariants.{Vlan as vlan}
use Rattle.verdict.proofs.columns.ColumnLaws.{loses-is}
use Rattle.set.proofs.FoundLaws.{found_inside}
use Rattle.set.proofs.WholeLaws.{written-ascends, written-legal}
use Rattle.set.proofs.loses_active.Goals as goal

pub find_row-requires : goal.find_row-requires
find_row-requires c = (legal-sized c.args.block.now c.requires, written-ascends (written-legal c.requires) vlan)

pub vlan-row-requires : goal.vlan-row-requires
vlan-row-requires c =
    let a = c in
    let b = a.args.block.now in
    let e : find_key a.args.q.key (keys_of (content_of b).vlans) ≡ Ok c.in-Ok.i =
    sym c.find_row.ensures ∙ c.in-Ok.is in
    (legal-sized b a.requires, found_inside a.args.q.key (content_of b).vlans c.in-Ok.i e)

pub returns-in-Ok : goal.returns-in-Ok
returns-in-Ok c =
    let a = c in
    let q = a.args.q in
    let vs = (content_of a.args.block.now).vlans in
    let e : find_key q.key (keys_of vs) ≡ Ok c.in-Ok.i = sym c.find_row.ensures ∙ c.in-Ok.is in
    rw (c.removes_row.ensures, c.vlan-row.ensures, find-lookup q.key vs c.in-Ok.i no_vlan e) (sym (loses-is (model_of (content_of a.args.block.now)) q.key (get_or vs c.in-Ok.i no_vlan).1 q.value))

pub returns-in-Err : goal.returns-in-Err
returns-in-Err c =
    let a = c in
    let q = a.args.q in
    let vs = (content_of a.args.block.now).vlans in
    let e : find_key q.key (keys_of vs) ≡ Err c.in-Err.field-0 = sym c.find_row.ensures ∙ c.in-Err.is in
    rw (find-missing q.key vs c.in-Err.field-0 ((written-legal a.requires).whole.rising vlan) e)
