-- `changes::insert_row` meets its contract: room made, the row put into it, and counted. Assumes nothing.
use mathlib.Core.Path.{◌≡◌, ap, ◌∙◌}
use mathlib.Core.List.{List}
use Prim.Native.Nat.{ℕ, ◌+◌, ◌*◌}
use native.Mathlib.Omega.{arith}
use lib.ListN.{length}
use Rattle.octets.specs.Numbers.{be_at}
use Rattle.octets.specs.Parts.{patch}
use Rattle.block.specs.Rows.{row_opened}
use Rattle.block.specs.Image.{content_of}
use Rattle.block.specs.Tables.{Row, rows_of, standing, octets_of}
use Rattle.block.specs.declared.tables.Standing.{Standing}
use Rattle.block.proofs.ReadLaws.{many-in}
use Rattle.block.proofs.StandingLaws.{stands, room-inside}
use Rattle.block.proofs.ChangeLaws.{image-rows, image-in}
use Rattle.changes.proofs.insert_row.Goals as goal

pub open_row-requires : goal.open_row-requires
open_row-requires g c =
    let b = c.args.block.now in
    let t = g.R.Row.table in
    let n = many-in b t in
    rw (c.standing_of-at.ensures, c.table.ensures)
    record {
      counted = (stands t).0;
      fits = omega (arith, room-inside t (be_at b (standing t).count 4 + 1) (omega arith));
      inside = omega arith;
    }

pub returns : goal.returns
returns g c k s e =
    let a = c.args in
    let t = g.R.Row.table in
    let n : length (rows_of t (content_of a.block.now)) ≡ length (rows_of t k) = image-rows t s e in
    let row : ℕ × Row t = (a.key, g.R.Row.held a.r.now) in
    let written = λ (at : Standing). patch (row_opened a.block.now at.count at.rows at.width a.i) (at.rows + a.i * at.width) (octets_of t row) in
    let at = c.standing_of-at.result in
    let put : c.put.new.s ≡ written (standing t) =
    c.put.ensures
    ∙ ap (λ (x : List ℕ). patch x (at.rows + a.i * at.width) (octets_of t row)) c.open_row.ensures
    ∙ ap written (c.standing_of-at.ensures ∙ ap standing c.table.ensures) in
    c.count.ensures ∙ image-in t s a.i row (omega arith) (omega arith) e put
