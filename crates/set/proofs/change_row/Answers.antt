-- `set::change_row` meets its contract: by the table. Assumes nothing.
use mathlib.Core.Path.{◌≡◌, sym, subst}
use mathlib.Core.Bool.{false}
use mathlib.Core.Option.{some}
use mathlib.Core.List.{List}
use Prim.Native.Nat.{ℕ, ◌≤◌}
use native.Mathlib.Omega.{arith}
use lib.ListN.{length, get_or}
use Rattle.octets.specs.Parts.{part}
use Rattle.octets.proofs.PartLaws.{part_length}
use Rattle.names.specs.declared.model.Model.{Model}
use Rattle.std.specs.Prelude.{Ok}
use Rattle.block.specs.Content.{model_of}
use Rattle.block.specs.Image.{content_of}
use Rattle.block.specs.Lookup.{keys_of, find_key, no_vlan, no_static, no_pair}
use Rattle.block.specs.Tables.{rows_of}
use Rattle.block.specs.declared.tables.Table.{Table}
use Rattle.block.specs.declared.tables.Table.TheVariants.{Vlan as vlan, Static as static, Pair as pair}
use Rattle.answer.specs.Tables.{ColumnOf, step, removes}
use Rattle.verdict.specs.Kept.{status_place, status_meant, column_at, ColumnFits}
use Rattle.verdict.specs.declared.judge.Kept.{Kept}
use Rattle.set.specs.Phases.{FitsRow}
use Rattle.verdict.proofs.columns.ColumnLaws.{static-small, pair_small}
use Rattle.set.proofs.WholeLaws.{whole-few, written-sized}
use Rattle.set.proofs.FoundLaws.{found_inside, set-becomes}
use Rattle.set.proofs.change_row.Goals as goal

-- what is asked, of the table that it is
abbrev Asked : (b s : List ℕ) (i : ℕ) (q : Kept) → Table → Type 0
Asked b s i q t = FitsRow t b s q × (find_key q.key (keys_of (rows_of t (content_of b))) ≡ Ok i) × (q.place ≡ status_place t → removes t (status_meant t q.value) ≡ false)

asked : (b s : List ℕ) (i : ℕ) (q : Kept) {t u : Table} → t ≡ u → Asked b s i q t → Asked b s i q u
asked b s i q e w = subst (Asked b s i q) e w

-- the octets that the kept binding writes, the change of a column that it is, and the bridge's model
abbrev octets : List ℕ → Kept → List ℕ
octets s q = part s q.at q.len

abbrev column : (t : Table) → List ℕ → Kept → ColumnOf t
column t s q = column_at t q.place q.value (octets s q)

abbrev bridge : List ℕ → Model
bridge b = model_of (content_of b)

pub vlan-row-requires : goal.vlan-row-requires
vlan-row-requires c =
    let a = c in
    let p = asked a.args.block.now a.args.request.now a.args.i a.args.q c.in-Vlan.is c.requires in
    (written-sized p.0.written, found_inside a.args.q.key (content_of a.args.block.now).vlans a.args.i p.1)

pub vlan_with-requires : goal.vlan_with-requires
vlan_with-requires c =
    let a = c in
    let q = a.args.q in
    let p = asked a.args.block.now a.args.request.now a.args.i a.args.q c.in-Vlan.is c.requires in (
      p.0.column,
      p.2,
      p.0.within,
      λ e.
          let l : length (octets a.args.request.now a.args.q) ≤ 32 = subst (λ (i : ℕ). ColumnFits vlan (column_at vlan i q.value (octets a.args.request.now a.args.q))) e p.0.fits in
          omega (arith, part_length a.args.request.now q.at q.len p.0.within),
    )

pub change_vlan-requires : goal.change_vlan-requires
change_vlan-requires c =
    let a = c in
    let p = asked a.args.block.now a.args.request.now a.args.i a.args.q c.in-Vlan.is c.requires in
    let w = p.0.written in
    ((written-sized w).long, omega (arith, whole-few w.whole vlan, found_inside a.args.q.key (content_of a.args.block.now).vlans a.args.i p.1))

pub static_entry-row-requires : goal.static_entry-row-requires
static_entry-row-requires c =
    let a = c in
    let p = asked a.args.block.now a.args.request.now a.args.i a.args.q c.in-Static.is c.requires in
    (written-sized p.0.written, found_inside a.args.q.key (content_of a.args.block.now).statics a.args.i p.1)

pub static_with-requires : goal.static_with-requires
static_with-requires c e =
    let a = c in
    let q = a.args.q in
    let p = asked a.args.block.now a.args.request.now a.args.i a.args.q c.in-Static.is c.requires in
    (p.2 e, static-small q.value (subst (λ (i : ℕ). ColumnFits static (column_at static i q.value (octets a.args.request.now a.args.q))) e p.0.fits))

pub change_static-requires : goal.change_static-requires
change_static-requires c =
    let a = c in
    let p = asked a.args.block.now a.args.request.now a.args.i a.args.q c.in-Static.is c.requires in
    let w = p.0.written in
    ((written-sized w).long, omega (arith, whole-few w.whole static, found_inside a.args.q.key (content_of a.args.block.now).statics a.args.i p.1))

pub pair_entry-row-requires : goal.pair_entry-row-requires
pair_entry-row-requires c =
    let a = c in
    let p = asked a.args.block.now a.args.request.now a.args.i a.args.q c.in-Pair.is c.requires in
    (written-sized p.0.written, found_inside a.args.q.key (content_of a.args.block.now).pairs a.args.i p.1)

pub pair_with-requires : goal.pair_with-requires
pair_with-requires c =
    let a = c in
    let p = asked a.args.block.now a.args.request.now a.args.i a.args.q c.in-Pair.is c.requires in
    (pair_small a.args.q.place a.args.q.value (octets a.args.request.now a.args.q) p.0.fits, p.2)

pub change_pair-requires : goal.change_pair-requires
change_pair-requires c =
    let a = c in
    let p = asked a.args.block.now a.args.request.now a.args.i a.args.q c.in-Pair.is c.requires in
    let w = p.0.written in
    ((written-sized w).long, omega (arith, whole-few w.whole pair, found_inside a.args.q.key (content_of a.args.block.now).pairs a.args.i p.1))

pub returns-in-Vlan : goal.returns-in-Vlan
returns-in-Vlan c =
    let a = c in
    let told = c.in-Vlan.is in
    let p = asked a.args.block.now a.args.request.now a.args.i a.args.q told c.requires in
    let w = p.0.written in
    let q = a.args.q in
    let row = (get_or (content_of a.args.block.now).vlans a.args.i no_vlan).1 in
    let with : some c.vlan_with.result ≡ step (bridge a.args.block.now) vlan q.key (column vlan a.args.request.now a.args.q) (some row) = rw c.vlan-row.ensures at (c.vlan_with.ensures (bridge a.args.block.now)) in
    rw told
    (set-becomes vlan w q.key (column vlan a.args.request.now a.args.q) p.0.key_fits p.0.fits no_vlan _ p.1 (sym with)
    (c.change_vlan.ensures _ w.whole.stored.shape (found_inside q.key (content_of a.args.block.now).vlans a.args.i p.1) (sym w.same)))

pub returns-in-Static : goal.returns-in-Static
returns-in-Static c =
    let a = c in
    let told = c.in-Static.is in
    let p = asked a.args.block.now a.args.request.now a.args.i a.args.q told c.requires in
    let w = p.0.written in
    let q = a.args.q in
    let row = (get_or (content_of a.args.block.now).statics a.args.i no_static).1 in
    let with : some c.static_with.result ≡ step (bridge a.args.block.now) static q.key (column static a.args.request.now a.args.q) (some row) = rw c.static_entry-row.ensures at (c.static_with.ensures (bridge a.args.block.now) (octets a.args.request.now a.args.q)) in
    rw told
    (set-becomes static w q.key (column static a.args.request.now a.args.q) p.0.key_fits p.0.fits no_static _ p.1 (sym with)
    (c.change_static.ensures _ w.whole.stored.shape (found_inside q.key (content_of a.args.block.now).statics a.args.i p.1) (sym w.same)))

pub returns-in-Pair : goal.returns-in-Pair
returns-in-Pair c =
    let a = c in
    let told = c.in-Pair.is in
    let p = asked a.args.block.now a.args.request.now a.args.i a.args.q told c.requires in
    let w = p.0.written in
    let q = a.args.q in
    let row = (get_or (content_of a.args.block.now).pairs a.args.i no_pair).1 in
    let with : some c.pair_with.result ≡ step (bridge a.args.block.now) pair q.key (column pair a.args.request.now a.args.q) (some row) =
    rw c.pair_entry-row.ensures at (c.pair_with.ensures (bridge a.args.block.now) (octets a.args.request.now a.args.q)) in
    rw told
    (set-becomes pair w q.key (column pair a.args.request.now a.args.q) p.0.key_fits p.0.fits no_pair _ p.1 (sym with)
    (c.change_pair.ensures _ w.whole.stored.shape (found_inside q.key (content_of a.args.block.now).pairs a.args.i p.1) (sym w.same)))
