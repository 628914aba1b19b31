-- `set::make_row` meets its contract: by the table. Assumes nothing.
use mathlib.Core.Path.{◌≡◌, sym, ap, subst, ◌∙◌}
use mathlib.Core.Bool.{true}
use mathlib.Core.Option.{none}
use mathlib.Core.List.{List}
use Prim.Native.Nat.{ℕ, ◌<◌}
use native.Mathlib.Omega.{arith}
use lib.ListN.{length}
use Rattle.names.specs.declared.model.Model.{Model}
use Rattle.std.specs.Prelude.{Err}
use Rattle.block.specs.Content.{model_of}
use Rattle.block.specs.Image.{content_of}
use Rattle.block.specs.Lookup.{keys_of, find_key}
use Rattle.block.specs.Tables.{rows_of, most}
use Rattle.block.specs.declared.tables.Table.{Table}
use Rattle.block.specs.declared.tables.Table.TheVariants.{Vlan as vlan, Static as static, Pair as pair}
use Rattle.answer.specs.Writes.{status}
use Rattle.answer.specs.Tables.{status_step, makes}
use Rattle.verdict.specs.Kept.{status_meant, key_room, ColumnFits}
use Rattle.set.specs.Phases.{Written}
use Rattle.verdict.proofs.columns.ColumnLaws.{static-small, state-small}
use Rattle.set.proofs.WholeLaws.{written-sized}
use Rattle.set.proofs.FoundLaws.{absent-inside, insert-becomes}
use Rattle.set.proofs.make_row.Goals as goal

-- what is asked, of the table that it is
abbrev Asked : (b : List ℕ) (i k v : ℕ) → Table → Type 0
Asked b i k v t =
    Written b
    × (k < key_room t)
    × ColumnFits t (status (status_meant t v))
    × (makes t (status_meant t v) ≡ true)
    × (find_key k (keys_of (rows_of t (content_of b))) ≡ Err i)
    × (length (rows_of t (content_of b)) < most t)

asked : (b : List ℕ) (i k v : ℕ) {t u : Table} → t ≡ u → Asked b i k v t → Asked b i k v u
asked b i k v e w = subst (Asked b i k v) e w

pub model-m-requires : goal.model-m-requires
model-m-requires c = (written-sized c.requires.0).long

pub made_vlan-requires : goal.made_vlan-requires
made_vlan-requires c =
    let p = asked c.args.block.now c.args.i c.args.key c.args.v c.in-Vlan.is c.requires in
    (p.3, omega (arith, ap (λ (d : Model). d.ports) c.model-m.ensures, p.0.whole.stored.few_ports))

pub insert_vlan-requires : goal.insert_vlan-requires
insert_vlan-requires c =
    let a = c in
    let p = asked a.args.block.now a.args.i a.args.key a.args.v c.in-Vlan.is c.requires in
    ((written-sized p.0).long, p.5, absent-inside a.args.key (content_of a.args.block.now).vlans a.args.i p.4)

pub made_static-requires : goal.made_static-requires
made_static-requires c =
    let a = c in
    let p = asked a.args.block.now a.args.i a.args.key a.args.v c.in-Static.is c.requires in
    (p.3, static-small a.args.v p.2, omega (arith, ap (λ (d : Model). d.ports) c.model-m.ensures, p.0.whole.stored.few_ports))

pub insert_static-requires : goal.insert_static-requires
insert_static-requires c =
    let a = c in
    let p = asked a.args.block.now a.args.i a.args.key a.args.v c.in-Static.is c.requires in
    ((written-sized p.0).long, p.5, absent-inside a.args.key (content_of a.args.block.now).statics a.args.i p.4)

pub made_pair-requires : goal.made_pair-requires
made_pair-requires c =
    let a = c in
    let p = asked a.args.block.now a.args.i a.args.key a.args.v c.in-Pair.is c.requires in
    (p.3, state-small a.args.v p.2)

pub insert_pair-requires : goal.insert_pair-requires
insert_pair-requires c =
    let a = c in
    let p = asked a.args.block.now a.args.i a.args.key a.args.v c.in-Pair.is c.requires in
    ((written-sized p.0).long, p.5, absent-inside a.args.key (content_of a.args.block.now).pairs a.args.i p.4)

pub returns-in-Vlan : goal.returns-in-Vlan
returns-in-Vlan c =
    let a = c in
    let told = c.in-Vlan.is in
    let p = asked a.args.block.now a.args.i a.args.key a.args.v told c.requires in
    let x = status_meant vlan a.args.v in
    rw told
    (insert-becomes vlan p.0 a.args.key (status x) p.1 p.2 _ p.4
    (sym (c.made_vlan.ensures ∙ ap (λ (m : Model). status_step m vlan a.args.key x none) c.model-m.ensures))
    p.5
    (c.insert_vlan.ensures _ p.0.whole.stored.shape (sym p.0.same)))

pub returns-in-Static : goal.returns-in-Static
returns-in-Static c =
    let a = c in
    let told = c.in-Static.is in
    let p = asked a.args.block.now a.args.i a.args.key a.args.v told c.requires in
    let x = status_meant static a.args.v in
    rw told
    (insert-becomes static p.0 a.args.key (status x) p.1 p.2 _ p.4
    (sym (c.made_static.ensures a.args.key ∙ ap (λ (m : Model). status_step m static a.args.key x none) c.model-m.ensures))
    p.5
    (c.insert_static.ensures _ p.0.whole.stored.shape (sym p.0.same)))

pub returns-in-Pair : goal.returns-in-Pair
returns-in-Pair c =
    let a = c in
    let told = c.in-Pair.is in
    let p = asked a.args.block.now a.args.i a.args.key a.args.v told c.requires in
    let x = status_meant pair a.args.v in
    rw told
    (insert-becomes pair p.0 a.args.key (status x) p.1 p.2 _ p.4
    (sym (c.made_pair.ensures (model_of (content_of a.args.block.now)) a.args.key))
    p.5
    (c.insert_pair.ensures _ p.0.whole.stored.shape (sym p.0.same)))
