-- `set::write_row` meets its contract: by the place of the key, and by what the column writes there. Assumes nothing.
use mathlib.Core.Path.{◌≡◌, sym, ap₂, ◌∙◌}
use mathlib.Core.Bool.{Bool, true, ◌&&◌}
use mathlib.Core.List.{List}
use Prim.Native.Nat.{ℕ, ◌<◌}
use lib.Dec.{eqb, ltb}
use borrow.Author.Tests.{ltb-true, eq-eqb}
use Rattle.octets.specs.Parts.{part}
use Rattle.octets.proofs.BoolLaws.{both}
use Rattle.names.specs.declared.model.Model.{Model}
use Rattle.block.specs.Content.{model_of}
use Rattle.block.specs.Image.{content_of}
use Rattle.block.specs.Tables.{rows_of, most}
use Rattle.answer.specs.Tables.{ColumnOf, makes, removes}
use Rattle.block.specs.declared.tables.Table.{Table}
use Rattle.verdict.specs.declared.judge.Kept.{Kept}
use Rattle.verdict.specs.Kept.{status_place, status_meant, column_at}
use Rattle.verdict.proofs.columns.ColumnLaws.{made_at, column-drops, column-makes, column-none}
use Rattle.set.proofs.WholeLaws.{whole-few, written-sized, written-ascends}
use Rattle.set.proofs.FoundLaws.{no_row, found_inside, remove-becomes, stays}
use Rattle.set.proofs.write_row.Goals as goal

-- the octets that the kept binding writes, the change of a column that it is, and the bridge's model
abbrev octets : List ℕ → Kept → List ℕ
octets s q = part s q.at q.len

abbrev column : (t : Table) → List ℕ → Kept → ColumnOf t
column t s q = column_at t q.place q.value (octets s q)

abbrev bridge : List ℕ → Model
bridge b = model_of (content_of b)

-- the tests, in the terms of the columns
module _ (t : Table) (q : Kept) {p : ℕ} {r : Bool} (place : p ≡ status_place t) where
  removing : r ≡ removes t (status_meant t q.value) → eqb q.place (status_place t) && removes t (status_meant t q.value) ≡ eqb q.place p && r
  removing e = ap₂ (λ (n : ℕ) (u : Bool). eqb q.place n && u) (sym place) (sym e)

  making : r ≡ makes t (status_meant t q.value) → eqb q.place (status_place t) && makes t (status_meant t q.value) ≡ eqb q.place p && r
  making e = ap₂ (λ (n : ℕ) (u : Bool). eqb q.place n && u) (sym place) (sym e)

  -- the kept binding writes the status column, makes a row by it, and the table has room for the row
  made : {n : ℕ} {h : Bool} → r ≡ makes t (status_meant t q.value) → h ≡ ltb n (most t) → (eqb q.place p && r) && h ≡ true
      → (eqb q.place (status_place t) ≡ true) × (makes t (status_meant t q.value) ≡ true) × (n < most t)
  made {n} {h} e f w =
      let u = both (eqb q.place p && r) h w in
      let m = both (eqb q.place (status_place t)) (makes t (status_meant t q.value)) (making e ∙ u.0) in
      (m.0, m.1, ltb-true n (most t) (sym f ∙ u.1))

pub find_row-requires : goal.find_row-requires
find_row-requires c =
    let a = c in
    (written-sized a.requires.written, written-ascends a.requires.written a.args.t)

pub remove_row-requires : goal.remove_row-requires
remove_row-requires c =
    let a = c in
    let w = a.requires.written in
    ((written-sized w).long, whole-few w.whole a.args.t, found_inside a.args.q.key (rows_of a.args.t (content_of a.args.block.now)) _ (sym c.find_row.ensures ∙ c.in-Ok.is))

pub returns-then-states-removes_row : goal.returns-then-states-removes_row
returns-then-states-removes_row c =
    let a = c in
    let t = a.args.t in
    let w = a.requires.written in
    let q = a.args.q in
    remove-becomes t w q.key (column t a.args.request.now a.args.q) a.requires.key_fits a.requires.fits (no_row t) (sym c.find_row.ensures ∙ c.in-Ok.is)
    (column-drops (bridge a.args.block.now) t q.key q.value (octets a.args.request.now a.args.q) q.place _ (removing c.args.t c.args.q c.status_place.ensures c.removes_row.ensures ∙ c.if-states-removes_row.true))
    (c.remove_row.ensures _ w.whole.stored.shape (sym w.same))

pub change_row-requires : goal.change_row-requires
change_row-requires c =
    let a = c in
    let q = a.args.q in
    let t = a.args.t in (
      a.requires,
      sym c.find_row.ensures ∙ c.in-Ok.is,
      λ e. rw (eq-eqb q.place (status_place t) e) at (removing c.args.t c.args.q c.status_place.ensures c.removes_row.ensures ∙ c.if-states-removes_row.false),
    )

pub has_room-requires : goal.has_room-requires
has_room-requires c = (written-sized c.requires.written).long

pub make_row-requires : goal.make_row-requires
make_row-requires c =
    let a = c in
    let m = made c.args.t c.args.q c.status_place.ensures c.makes_row.ensures c.has_room.ensures c.if-states-makes_row.true in
    (a.requires.written, a.requires.key_fits, rw m.0 at a.requires.fits, m.1, sym c.find_row.ensures ∙ c.in-Err.is, m.2)

pub returns-else-states-removes_row : goal.returns-else-states-removes_row
returns-else-states-removes_row c = c.change_row.ensures

pub returns-then-states-makes_row : goal.returns-then-states-makes_row
returns-then-states-makes_row c = rw (made c.args.t c.args.q c.status_place.ensures c.makes_row.ensures c.has_room.ensures c.if-states-makes_row.true).0 c.make_row.ensures

pub returns-else-states-makes_row : goal.returns-else-states-makes_row
returns-else-states-makes_row c =
    let a = c in
    let t = a.args.t in
    let q = a.args.q in
    stays t a.requires.written q.key (column t a.args.request.now a.args.q) a.requires.key_fits a.requires.fits (made_at (bridge a.args.block.now) t q.key q.value) (eqb q.place (status_place t) && makes t (status_meant t q.value)) (sym c.find_row.ensures ∙ c.in-Err.is)
    (column-makes (bridge a.args.block.now) t q.key q.value (octets a.args.request.now a.args.q) q.place)
    (column-none (bridge a.args.block.now) t q.key q.value (octets a.args.request.now a.args.q) q.place)
    (ap₂ (λ (s t : Bool). s && t) (making c.args.t c.args.q c.status_place.ensures c.makes_row.ensures) (sym c.has_room.ensures) ∙ c.if-states-makes_row.false)
