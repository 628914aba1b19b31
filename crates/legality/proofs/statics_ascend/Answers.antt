use mathlib.Core.Path.{◌≡◌, refl, sym, ap, subst, ◌∙◌}
use mathlib.Core.Bool.{◌&&◌}
use Prim.Native.Nat.{ℕ, ◌+◌, ◌*◌, ◌≤◌}
use native.Mathlib.Omega.{arith}
use lib.Dec.{leb}
use lib.ListN.{drop, get_or}
use borrow.Author.Tests.{leb-true}
use Rattle.octets.proofs.BoolLaws.{both}
use Rattle.block.specs.Image.{content_of}
use Rattle.block.specs.Tests.{static_status, ascends}
use Rattle.block.specs.Lookup.{no_static}
use Rattle.block.specs.declared.rows.StaticRow.{StaticRow}
use Rattle.block.specs.declared.tables.Table.TheVariants.{Static as static}
use Rattle.block.proofs.ReadLaws.{many-in}
use Rattle.legality.proofs.AscendLaws.{ascends-turn, ascends-end, each_at, word-is, key_behind, Word, word_first, word_next, behind-next, word_below, word-above}
use Rattle.legality.proofs.statics_ascend.Goals as goal
use Rattle.legality.proofs.statics_ascend.Lts as lts
use Rattle.legality.proofs.statics_ascend.Reads as reads
use Rattle.legality.proofs.statics_ascend.Tie as tie

pub loop-i-init : goal.loop-i-init
loop-i-init c = (omega arith, word_first, refl)

pub overflow_mul-i : goal.overflow_mul-i
overflow_mul-i c = omega (arith, many-in c.args.block.now static)

pub overflow_add-i : goal.overflow_add-i
overflow_add-i c = omega (arith, many-in c.args.block.now static)

pub be8-word-requires : goal.be8-word-requires
be8-word-requires c = omega (arith, many-in c.args.block.now static)

pub overflow_add-before : goal.overflow_add-before
overflow_add-before c = omega (arith, c.loop-i.invariant.0, c.loop-i.invariant.1.last)

-- the row that was read: its key and its status are the word
abbrev row : lts.After-be8 tie.the-claims reads.Pre reads.Post goal.the-invariant-loop-i goal.the-decreases-loop-i → ℕ × StaticRow
row c = get_or (content_of c.args.block.now).statics c.loop-i.i no_static

word : (c : lts.After-be8 tie.the-claims reads.Pre reads.Post goal.the-invariant-loop-i goal.the-decreases-loop-i) → c.be8-word.result ≡ (row c).0 * 256 + (row c).1.status
word c =
    let b = c.args.block.now in
    c.be8-word.ensures ∙ word-is b c.loop-i.i no_static (omega (arith, many-in b static))

status : (c : lts.After-be8 tie.the-claims reads.Pre reads.Post goal.the-invariant-loop-i goal.the-decreases-loop-i) → (3 ≤ (row c).1.status) × ((row c).1.status ≤ 5)
status c =
    let t = both (leb 3 (row c).1.status) (leb (row c).1.status 5)
    (each_at static_status (content_of c.args.block.now).statics c.loop-i.i no_static (omega arith) c.requires.1) in
    (leb-true 3 (row c).1.status t.0, leb-true (row c).1.status 5 t.1)

-- what a turn makes of the answer
turn : (c : lts.After-be8 tie.the-claims reads.Pre reads.Post goal.the-invariant-loop-i goal.the-decreases-loop-i) →
    let es = (content_of c.args.block.now).statics in
    ascends 0 es ≡ (leb (key_behind c.loop-i.before) (row c).0 && ascends ((row c).0 + 1) (drop (c.loop-i.i + 1) es))
turn c =
    let l = c.loop-i in
    l.invariant.2 ∙ ascends-turn (key_behind l.before) (content_of c.args.block.now).statics l.i no_static (omega arith)

pub returns-then-word-before : goal.returns-then-word-before
returns-then-word-before c =
    let l = c.loop-i in
    let s = status c.before.before in
    sym (turn c.before.before ∙ rw (word_below l.before (row c.before.before).0 (row c.before.before).1.status l.invariant.1 s.0 s.1 (omega (arith, word c.before.before))))

pub loop-i-preserved : goal.loop-i-preserved
loop-i-preserved c =
    let l = c.loop-i in
    let s = status c.before.before in
    let e = word c.before.before in (
      omega arith,
      subst Word (sym e) (word_next l.before (row c.before.before).0 (row c.before.before).1.status l.invariant.1 s.0 s.1),
      turn c.before.before
          ∙ rw (word-above l.before (row c.before.before).0 (row c.before.before).1.status l.invariant.1 s.0 s.1 (omega (arith, e)))
          (ap (λ (k : ℕ). ascends k (drop (l.i + 1) (content_of c.args.block.now).statics))
          (sym (ap key_behind e ∙ behind-next l.before (row c.before.before).0 (row c.before.before).1.status l.invariant.1 s.0 s.1))),
    )

pub returns : goal.returns
returns c =
    let a = c.args in
    let l = c.loop-i in
    sym (l.invariant.2 ∙ ascends-end (key_behind l.before) (content_of a.block.now).statics l.i (omega arith))
