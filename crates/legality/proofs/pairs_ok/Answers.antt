use mathlib.Core.Path.{◌≡◌, refl, sym, ◌∙◌}
use mathlib.Core.Bool.{Bool, ◌&&◌}
use Prim.Native.Nat.{◌+◌, ◌<◌, ◌^◌}
use native.Mathlib.Omega.{arith}
use lib.Dec.{leb}
use lib.ListN.{drop}
use Rattle.names.specs.declared.Shape.TheVariants.{Pair}
use Rattle.block.specs.Image.{content_of}
use Rattle.block.specs.Valid.{rows_ok, pair_ok}
use Rattle.block.specs.Lookup.{no_pair}
use Rattle.block.specs.declared.tables.Table.TheVariants.{Pair as pair}
use Rattle.block.proofs.StandingLaws.{key-at, key-small}
use Rattle.legality.proofs.LegalLaws.{rows-turn, rows_end}
use Rattle.legality.proofs.pairs_ok.Goals as goal
use Rattle.legality.proofs.pairs_ok.Lts as lts
use Rattle.legality.proofs.pairs_ok.Reads as reads
use Rattle.legality.proofs.pairs_ok.Tie as tie

pub loop-i-init : goal.loop-i-init
loop-i-init c = refl

-- the key has two octets
small : (c : lts.After-row_key tie.the-claims reads.Pre reads.Post goal.the-invariant-loop-i goal.the-decreases-loop-i) → c.row_key-key.result < 256 ^ 2
small c =
    let d = c.before.before.before.before in
    let b = d.args.block.now in
    rw c.row_key-key.ensures (key-small b pair c.loop-i.i (λ j. omega (arith, d.shared_slice_known-1.given j)) (omega arith))

-- whether the row is as it must be
abbrev fits : lts.After-pair_ok tie.the-claims reads.Pre reads.Post goal.the-invariant-loop-i goal.the-decreases-loop-i → Bool
fits c = (leb c.loop-i.low c.row_key-key.result && c.is_pair.result) && c.pair_ok.result

-- what a turn makes of the answer
turn : (c : lts.After-pair_ok tie.the-claims reads.Pre reads.Post goal.the-invariant-loop-i goal.the-decreases-loop-i) →
    let a = c.args in
    let es = (content_of a.block.now).pairs in
    rows_ok a.m Pair pair_ok 0 es ≡ (fits c && rows_ok a.m Pair pair_ok (c.row_key-key.result + 1) (drop (c.loop-i.i + 1) es))
turn c =
    let a = c.args in
    let l = c.loop-i in
    let es = (content_of a.block.now).pairs in
    l.invariant
    ∙ rw (
      rows-turn a.m Pair pair_ok l.low es l.i no_pair (omega arith),
      ← key-at es l.i no_pair.1,
      ← c.row_key-key.ensures,
      ← c.is_pair.ensures,
      ← c.entry.ensures,
      ← c.pair_ok.ensures,
    )

pub returns-then-not-fits : goal.returns-then-not-fits
returns-then-not-fits c = sym (turn c.before.before ∙ rw c.if-not-fits.true)

pub overflow_add-low : goal.overflow_add-low
overflow_add-low c = omega (arith, small c.before.before.before.before.before)

pub loop-i-preserved : goal.loop-i-preserved
loop-i-preserved c = turn c.before.before ∙ rw c.if-not-fits.false

pub returns : goal.returns
returns c =
    let a = c.args in
    let l = c.loop-i in
    sym (l.invariant ∙ rows_end a.m Pair pair_ok l.low (content_of a.block.now).pairs l.i (omega arith))
