-- `legality::column_ok` meets its contract. Assumes nothing.
use mathlib.Core.Path.{◌≡◌, sym, ◌∙◌}
use mathlib.Core.Bool.{◌&&◌}
use Prim.Native.Nat.{◌+◌, ◌-◌, ◌*◌, ◌≤◌}
use native.Mathlib.Omega.{arith}
use lib.ListN.{take, drop}
use Rattle.octets.specs.Parts.{zero_run}
use Rattle.block.specs.Cells.{cells_of, live_in}
use Rattle.block.specs.Image.{content_of}
use Rattle.block.specs.Valid.{column_ok}
use Rattle.legality.proofs.LegalLaws.{column-none, live-fits, column-tests}
use Rattle.legality.proofs.column_ok.Goals as goal
use Rattle.legality.proofs.column_ok.Lts as lts
use Rattle.legality.proofs.column_ok.Reads as reads
use Rattle.legality.proofs.column_ok.Tie as tie

pub returns-then-total-eq0 : goal.returns-then-total-eq0
returns-then-total-eq0 c =
    let a = c.args in
    sym (column-none a.m a.o _ (sym c.cells_of-total.ensures ∙ c.if-total-eq0.true))

-- an object that has cells has those that hold values
live : (c : lts.Else1 tie.the-claims reads.Pre reads.Post) → let a = c.args in live_in a.m a.o ≤ cells_of a.o
live c =
    let s = c.before.before.before in
    live-fits s.args.m s.args.o s.requires.1 (λ e. c.if-total-eq0.false (c.cells_of-total.ensures ∙ e))

pub cells_taken-requires : goal.cells_taken-requires
cells_taken-requires c = omega (arith, live c.before.before)

-- what the answer is past the test of these
tests : (c : lts.After-cells_taken tie.the-claims reads.Pre reads.Post) →
    let a = c.args in
    let l = c.live_in-live.result in
    column_ok a.m a.o (take (cells_of a.o) (drop a.k (content_of a.block.now).cells))
    ≡ (c.cells_taken.result && zero_run a.block.now (32 + (a.k + l) * 4) ((c.cells_of-total.result - l) * 4))
tests c =
    let s = c.before.before.before.before.before in
    cc (column-tests s.args.block.now s.args.m s.args.o s.args.k s.requires.3 (live c.before.before))

pub returns-then-not-cells_taken : goal.returns-then-not-cells_taken
returns-then-not-cells_taken c = sym (tests c.before.before ∙ rw c.if-not-cells_taken.true)

pub overflow_add-k : goal.overflow_add-k
overflow_add-k c = omega (arith, live c.before.before.before.before)

pub overflow_mul-k : goal.overflow_mul-k
overflow_mul-k c = omega (arith, live c.before.before.before.before)

pub overflow_add-k-2 : goal.overflow_add-k-2
overflow_add-k-2 c = omega (arith, live c.before.before.before.before)

pub overflow_sub-total : goal.overflow_sub-total
overflow_sub-total c = omega (arith, live c.before.before.before.before)

pub all_zero-requires : goal.all_zero-requires
all_zero-requires c = omega (arith, live c.before.before.before.before)

pub returns : goal.returns
returns c =
    c.all_zero.ensures ∙ sym (tests c.before.before.before ∙ rw c.if-not-cells_taken.false)
