-- `set::write_kept` meets its contract: by where the kept binding writes. Assumes nothing.
use mathlib.Core.Path.{◌≡◌, sym, ap, subst, ◌∙◌}
use mathlib.Core.List.{List}
use Prim.Native.Nat.{ℕ}
use native.Mathlib.Omega.{arith}
use Rattle.std.specs.Prelude.{Option as Maybe, Some, None, Ok}
use Rattle.octets.specs.Parts.{part}
use Rattle.block.specs.Content.{cell_put}
use Rattle.block.specs.Cells.{cell_of}
use Rattle.block.specs.Image.{image, content_of}
use Rattle.answer.specs.Judge.{row, cell, clean}
use Rattle.block.specs.declared.tables.Table.{Table}
use Rattle.verdict.specs.Kept.{column_in, column_at, meant, JudgedFits}
use Rattle.verdict.specs.declared.judge.Kept.{Kept}
use Rattle.verdict.proofs.columns.ColumnLaws.{column-of, kept_row, kept-cell}
use Rattle.set.proofs.WholeLaws.{whole-cell, becomes, written-sized}
use Rattle.set.proofs.write_kept.Goals as goal

-- what the kept binding means, by where its object has its values, and that it fits
in_row : (s : List ℕ) (q : Kept) {h : Maybe Table} {t : Table} → h ≡ column_in q.place → h ≡ Some t
    → meant s (Ok q) ≡ clean (0, 0) (row t q.key (column_at t q.place q.value (part s q.at q.len)))
in_row s q e f = kept_row s q _ (sym e ∙ f)

in_cell : (s : List ℕ) (q : Kept) {h : Maybe Table} → h ≡ column_in q.place → h ≡ None → meant s (Ok q) ≡ clean (0, 0) (cell q.place q.key q.value)
in_cell s q e f = kept-cell s q (sym e ∙ f)

cell-fits : (s : List ℕ) (q : Kept) {h : Maybe Table} → h ≡ column_in q.place → h ≡ None → JudgedFits (meant s (Ok q)) → JudgedFits (clean (0, 0) (cell q.place q.key q.value))
cell-fits s q e f w = subst JudgedFits (in_cell s q e f) w

pub write_row-requires : goal.write_row-requires
write_row-requires c =
    let a = c in
    let f = subst JudgedFits (in_row c.args.request.now c.args.q c.column_in-holder.ensures c.in-Some.is) a.requires.1 in
    record {
      written = a.requires.0;
      column = column-of _ a.args.q.place (sym c.column_in-holder.ensures ∙ c.in-Some.is);
      key_fits = f.0;
      fits = f.1;
      within = a.requires.2;
    }

pub cell_of-requires : goal.cell_of-requires
cell_of-requires c = let f = cell-fits c.args.request.now c.args.q c.column_in-holder.ensures c.in-None.is c.requires.1 in (f.0, f.1)

pub overflow_cast-q : goal.overflow_cast-q
overflow_cast-q c = omega (arith, (cell-fits c.args.request.now c.args.q c.column_in-holder.ensures c.in-None.is c.requires.1).3)

pub put_cell-requires : goal.put_cell-requires
put_cell-requires c = ((written-sized c.requires.0).long, omega (arith, c.cell_of.ensures, (cell-fits c.args.request.now c.args.q c.column_in-holder.ensures c.in-None.is c.requires.1).2))

pub returns-in-Some : goal.returns-in-Some
returns-in-Some c = rw (sym c.column_in-holder.ensures ∙ c.in-Some.is) c.write_row.ensures

pub returns-in-None : goal.returns-in-None
returns-in-None c =
    let a = c in
    let w = a.requires.0 in
    let q = a.args.q in
    let v = content_of a.args.block.now in
    rw (sym c.column_in-holder.ensures ∙ c.in-None.is)
    (becomes (whole-cell w.whole (cell_of q.place q.key) q.value (cell-fits c.args.request.now c.args.q c.column_in-holder.ensures c.in-None.is c.requires.1).3)
    (c.put_cell.ensures v w.whole.stored.shape (sym w.same) ∙ ap (λ (i : ℕ). image (cell_put v i q.value)) c.cell_of.ensures))
