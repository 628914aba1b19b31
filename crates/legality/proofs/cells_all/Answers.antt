use mathlib.Core.Path.{◌≡◌, sym, ◌∙◌}
use mathlib.Core.Bool.{Bool, ◌&&◌}
use mathlib.Core.List.{List}
use Prim.Native.Nat.{ℕ, ◌+◌, ◌≤◌, ◌<◌}
use native.Mathlib.Omega.{arith}
use lib.ListN.{take, drop, get_or}
use Rattle.block.specs.Image.{content_of}
use Rattle.block.specs.Valid.{every}
use Rattle.block.proofs.ReadLaws.{many-cells}
use Rattle.legality.proofs.LegalLaws.{every-turn, every-end}
use Rattle.legality.proofs.cells_all.Goals as goal

-- what a turn makes of the answer
turn : (t : ℕ → Bool) (b : List ℕ) (k m i v : ℕ) (r : Bool) → k + m ≤ 1541 → i < m → v ≡ get_or (content_of b).cells (k + i) 0 → r ≡ t v
    → every t (drop i (take m (drop k (content_of b).cells))) ≡ (r && every t (drop (i + 1) (take m (drop k (content_of b).cells))))
turn t b k m i v r h lt e told =
    rw (every-turn t (content_of b).cells k m i (omega (arith, many-cells b)) lt, ← e, ← told)

pub returns-then-not-test : goal.returns-then-not-test
returns-then-not-test g c t tells =
    let a = c.args in
    let l = c.loop-i in
    let told : c.test.result ≡ t c.cell.result = tells c.cell.result c.test.result (omega arith) c.test.ensures in
    sym (l.invariant t tells ∙ turn t a.block.now a.k a.m l.i c.cell.result c.test.result c.requires.cells.1 c.loop-i-test.true c.cell.ensures told ∙ rw c.if-not-test.true)

pub loop-i-preserved : goal.loop-i-preserved
loop-i-preserved g c t tells =
    let a = c.args in
    let l = c.loop-i in
    let told : c.test.result ≡ t c.cell.result = tells c.cell.result c.test.result (omega arith) c.test.ensures in
    l.invariant t tells ∙ turn t a.block.now a.k a.m l.i c.cell.result c.test.result c.requires.cells.1 c.loop-i-test.true c.cell.ensures told ∙ rw c.if-not-test.false

pub returns : goal.returns
returns g c t tells =
    let a = c.args in
    let l = c.loop-i in
    sym (l.invariant t tells ∙ every-end t (drop a.k (content_of a.block.now).cells) a.m l.i c.loop-i-test.false)
