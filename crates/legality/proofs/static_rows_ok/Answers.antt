use mathlib.Core.Path.{◌≡◌, refl, sym, subst, ◌∙◌}
use mathlib.Core.Bool.{Bool, ◌&&◌}
use Prim.Native.Nat.{◌+◌, ◌*◌, ◌^◌, ◌<◌}
use native.Mathlib.Omega.{arith}
use lib.Dec.{leb}
use lib.ListN.{drop, get_or}
use Rattle.octets.specs.Numbers.{be_at}
use Rattle.octets.proofs.NumberLaws.{Octets}
use Rattle.names.specs.declared.Shape.TheVariants.{Static}
use Rattle.block.specs.Image.{content_of}
use Rattle.block.specs.Valid.{every, static_ok}
use Rattle.block.specs.Tests.{row_ok}
use Rattle.block.specs.Lookup.{no_static}
use Rattle.block.proofs.ReadLaws.{many-in}
use Rattle.block.specs.declared.tables.Table.TheVariants.{Static as static}
use Rattle.block.proofs.StandingLaws.{key-at, key-small}
use Rattle.legality.proofs.LegalLaws.{static-can}
use Rattle.legality.proofs.AscendLaws.{each_turn, each-end, port-is}
use Rattle.legality.proofs.static_rows_ok.Goals as goal
use Rattle.legality.proofs.static_rows_ok.Lts as lts
use Rattle.legality.proofs.static_rows_ok.Reads as reads
use Rattle.legality.proofs.static_rows_ok.Tie as tie

abbrev start : lts.After-static_ok tie.the-claims reads.Pre reads.Post goal.the-invariant-loop-i goal.the-decreases-loop-i → lts.Start tie.the-claims reads.Pre reads.Post goal.the-invariant-loop-i goal.the-decreases-loop-i
start c = c.before.before.before.before.before.before.before.before

pub loop-i-init : goal.loop-i-init
loop-i-init c = refl

pub overflow_mul-port : goal.overflow_mul-port
overflow_mul-port c = omega (arith, many-in c.args.block.now static)

pub overflow_add-port : goal.overflow_add-port
overflow_add-port c = omega (arith, many-in c.args.block.now static)

pub overflow_add-port-in-loop-i : goal.overflow_add-port-in-loop-i
overflow_add-port-in-loop-i c = omega (arith, many-in c.args.block.now static)

pub bounds-block-i : goal.bounds-block-i
bounds-block-i c = omega (arith, many-in c.args.block.now static)

pub overflow_cast-fits : goal.overflow_cast-fits
overflow_cast-fits c = omega (arith, c.type_inv.block (21556 + c.loop-i.i * 16 + 6))

-- whether the row is as it must be
abbrev fits : lts.After-static_ok tie.the-claims reads.Pre reads.Post goal.the-invariant-loop-i goal.the-decreases-loop-i → Bool
fits c = leb (get_or (start c).args.block.now (21556 + c.loop-i.i * 16 + 6) 0) (start c).args.m.ports && c.static_ok.result

-- what a turn makes of the answer
turn : (c : lts.After-static_ok tie.the-claims reads.Pre reads.Post goal.the-invariant-loop-i goal.the-decreases-loop-i) →
    let a = (start c).args in
    let es = (content_of a.block.now).statics in
    every (row_ok a.m Static (static_ok a.m)) es ≡ (fits c && every (row_ok a.m Static (static_ok a.m)) (drop (c.loop-i.i + 1) es))
turn c =
    let a = (start c).args in
    let b = a.block.now in
    let i = c.loop-i.i in
    let there : i < be_at b 12 4 = omega (arith, many-in b static) in
    let octets : Octets b = λ j. omega (arith, c.shared_slice_known-1.given j) in
    let small = subst (λ k. k < 256 ^ 7) (key-at (content_of b).statics i no_static.1) (key-small b static i octets (omega arith)) in
    c.loop-i.invariant
    ∙ rw (
      each_turn (row_ok a.m Static (static_ok a.m)) (content_of b).statics i no_static (omega arith),
      static-can a.m _ small,
      port-is b i no_static there octets,
      ← c.entry.ensures,
      ← c.static_ok.ensures,
    )

pub returns-then-not-fits : goal.returns-then-not-fits
returns-then-not-fits c = sym (turn c.before.before ∙ rw c.if-not-fits.true)

pub loop-i-preserved : goal.loop-i-preserved
loop-i-preserved c = turn c.before.before ∙ rw c.if-not-fits.false

pub returns : goal.returns
returns c =
    let a = c.args in
    let l = c.loop-i in
    sym (l.invariant ∙ each-end (row_ok a.m Static (static_ok a.m)) (content_of a.block.now).statics l.i (omega arith))
