-- `block::reads::entry` meets its contract. Assumes nothing.
use mathlib.Core.Path.{ap, sym, ◌∙◌}
use Prim.Native.Nat.{ℕ}
use native.Mathlib.Omega.{arith}
use Rattle.block.specs.Tables.{Row, no_row}
use Rattle.block.proofs.ReadLaws.{row_is, many-in}
use Rattle.block.proofs.StandingLaws.{row-ends-in}
use Rattle.block.proofs.reads.entry.Goals as goal

pub overflow_mul-i : goal.overflow_mul-i
overflow_mul-i g c =
    rw (c.standing_of-at.ensures, c.table.ensures)
    (omega (arith, row-ends-in c.args.block.now g.R.Row.table c.args.i c.requires.0 c.requires.1, c.requires.0.long))

pub overflow_add-at : goal.overflow_add-at
overflow_add-at g c =
    rw (c.standing_of-at.ensures, c.table.ensures)
    (omega (arith, row-ends-in c.args.block.now g.R.Row.table c.args.i c.requires.0 c.requires.1, c.requires.0.long))

pub read-requires : goal.read-requires
read-requires g c =
    rw (c.standing_of-at.ensures, c.table.ensures)
    (omega (arith, row-ends-in c.args.block.now g.R.Row.table c.args.i c.requires.0 c.requires.1))

pub returns : goal.returns
returns g c =
    let b = c.args.block.now in
    let t = g.R.Row.table in
    rw (c.standing_of-at.ensures, c.table.ensures) at c.read.ensures
    ∙ sym (ap (λ (e : ℕ × Row t). e.1) (row_is b t c.args.i (no_row t) (omega (arith, many-in b t))))
