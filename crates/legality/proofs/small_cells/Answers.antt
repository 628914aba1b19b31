use mathlib.Core.Path.{◌≡◌, sym, ap, ◌∙◌}
use mathlib.Core.Bool.{Bool, ◌&&◌}
use Prim.Native.Nat.{◌+◌, ◌*◌, ◌≤◌}
use native.Mathlib.Omega.{arith}
use lib.ListN.{length, take, drop}
use Rattle.block.specs.Image.{content_of}
use Rattle.block.specs.Valid.{every}
use Rattle.block.specs.Tests.{is_small}
use Rattle.block.proofs.ReadLaws.{many-cells}
use Rattle.legality.proofs.LegalLaws.{every-end}
use Rattle.legality.proofs.SmallLaws.{every_two}
use Rattle.legality.proofs.small_cells.Goals as goal
use Rattle.legality.proofs.small_cells.Lts as lts
use Rattle.legality.proofs.small_cells.Reads as reads
use Rattle.legality.proofs.small_cells.Tie as tie

-- what a turn makes of the answer
turn : (c : lts.After-two_small tie.the-claims reads.Pre reads.Post goal.the-invariant-loop-i goal.the-decreases-loop-i) →
    let a = c.args in
    let xs = take a.m (drop a.k (content_of a.block.now).cells) in
    every is_small xs ≡ (c.two_small.result && every is_small (drop (2 * (c.loop-i.i + 1)) xs))
turn c =
    let a = c.args in
    let l = c.loop-i in
    let cs = (content_of a.block.now).cells in
    let h : a.k + a.m ≤ length cs = omega (arith, many-cells a.block.now) in
    let n : 2 * l.i + 2 ≡ 2 * (l.i + 1) = omega arith in
    l.invariant
    ∙ every_two is_small cs a.k a.m (2 * l.i) h (omega arith)
    ∙ rw n (ap (λ (t : Bool). t && every is_small (drop (2 * (l.i + 1)) (take a.m (drop a.k cs)))) (sym c.two_small.ensures))

pub returns-then-not-two_small : goal.returns-then-not-two_small
returns-then-not-two_small c = sym (turn c.before.before ∙ rw c.if-not-two_small.true)

pub loop-i-preserved : goal.loop-i-preserved
loop-i-preserved c = turn c.before.before ∙ rw c.if-not-two_small.false

pub returns : goal.returns
returns c =
    let a = c.args in
    let l = c.loop-i in
    sym (l.invariant ∙ every-end is_small (drop a.k (content_of a.block.now).cells) a.m (2 * l.i) (omega arith))
