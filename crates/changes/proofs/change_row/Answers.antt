-- `changes::change_row` meets its contract: the old row no longer counted, the row written anew, and counted. Assumes nothing.
use mathlib.Core.Path.{◌≡◌, ap, ap₂, ◌∙◌}
use mathlib.Core.List.{List}
use Prim.Native.Nat.{ℕ, ◌+◌, ◌*◌}
use Rattle.octets.specs.Parts.{patch}
use Rattle.block.specs.Tables.{Row, standing, octets_of, uncounted}
use Rattle.block.specs.declared.tables.Standing.{Standing}
use Rattle.block.proofs.ChangeLaws.{image-put}
use Rattle.changes.proofs.change_row.Goals as goal

pub returns : goal.returns
returns g c k s h e =
    let a = c.args in
    let t = g.R.Row.table in
    let row : ℕ × Row t = (a.key, g.R.Row.held a.r.now) in
    let written = λ (b : List ℕ) (at : Standing). patch b (at.rows + a.i * at.width) (octets_of t row) in
    let put : c.put.new.s ≡ written (uncounted t a.block.now a.i) (standing t) =
    c.put.ensures
    ∙ ap₂ written (c.uncount.ensures ∙ ap (λ u. uncounted u a.block.now a.i) c.table-t.ensures) (c.standing_of-at.ensures ∙ ap standing c.table-t.ensures) in
    c.count.ensures ∙ image-put t s a.i row h e put
