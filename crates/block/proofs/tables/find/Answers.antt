use mathlib.Core.Path.{◌≡◌, sym, ◌∙◌}
use Prim.Native.Nat.{ℕ, ◌+◌, ◌*◌, ◌≤◌, ◌<◌}
use native.Mathlib.Omega.{arith}
use lib.ListN.{length, get_or}
use Rattle.octets.specs.Numbers.{be_at}
use Rattle.block.specs.Lookup.{middle}
use Rattle.block.proofs.RowLaws.{length-rows_at, get_d-rows_at, row_inside}
use Rattle.block.proofs.HalvingLaws.{keys_at, left-all, left_end, left-found, left_below, left-above}
use Rattle.block.proofs.tables.find.Goals as goal
use Rattle.block.proofs.tables.find.Lts as lts
use Rattle.block.proofs.tables.find.Reads as reads
use Rattle.block.proofs.tables.find.Tie as tie

pub loop-low-init : goal.loop-low-init
loop-low-init c =
    let a = c.args in
    let l : length (keys_at a.at.key a.at.width a.block.now a.at.rows a.n) ≡ a.n = length-rows_at (λ x q. be_at x q a.at.key) a.at.width a.block.now a.at.rows a.n in
    (omega arith, omega arith, omega arith, rw l at (left-all a.key (keys_at a.at.key a.at.width a.block.now a.at.rows a.n)))

-- the middle row is in the block
inside : (n w low high : ℕ) → low < high → high ≤ n → (middle low high < n) × (middle low high * w + w ≤ n * w)
inside n w low high h l =
    let m : middle low high < n = omega arith in
    (m, row_inside (middle low high) n w m)

pub overflow_mul-middle : goal.overflow_mul-middle
overflow_mul-middle c = let l = c.loop-low in omega (arith, (inside c.args.n c.args.at.width l.low l.high (omega arith) (omega arith)).1)

pub overflow_add-at : goal.overflow_add-at
overflow_add-at c = let l = c.loop-low in omega (arith, (inside c.args.n c.args.at.width l.low l.high (omega arith) (omega arith)).1)

pub be-k-requires : goal.be-k-requires
be-k-requires c =
    let l = c.loop-low in
    (omega (arith, (inside c.args.n c.args.at.width l.low l.high (omega arith) (omega arith)).1), omega arith)

-- the key that is read there
key-read : (c : lts.After-be tie.the-claims reads.Pre reads.Post goal.the-invariant-loop-low goal.the-decreases-loop-low) →
    let a = c.args in
    let l = c.loop-low in
    get_or (keys_at a.at.key a.at.width a.block.now a.at.rows a.n) (middle l.low l.high) 0 ≡ c.be-k.result
key-read c =
    let a = c.args in
    let l = c.loop-low in
    get_d-rows_at (λ x q. be_at x q a.at.key) a.at.width a.block.now a.at.rows a.n (middle l.low l.high) 0 (inside a.n a.at.width l.low l.high (omega arith) (omega arith)).0 ∙ sym c.be-k.ensures.0

pub returns-then-k-key : goal.returns-then-k-key
returns-then-k-key c = left-found _ _ c.loop-low.invariant.3 c.loop-low-test.true (key-read c.before.before ∙ c.if-k-key.true)

pub loop-low-preserved-then-key-k : goal.loop-low-preserved-then-key-k
loop-low-preserved-then-key-k c =
    let b = c.before.before.before in (
      omega arith,
      omega arith,
      omega arith,
      left_below _ _ b.loop-low.invariant.3 b.loop-low-test.true (λ e. c.if-k-key.false (sym (key-read b) ∙ e)) (rw (key-read b) c.if-key-k.true),
    )

pub loop-low-preserved : goal.loop-low-preserved
loop-low-preserved c =
    let b = c.before.before.before in (
      omega arith,
      omega arith,
      omega arith,
      left-above _ _ b.loop-low.invariant.3 b.loop-low-test.true (λ e. c.if-k-key.false (sym (key-read b) ∙ e)) (rw (key-read b) c.if-key-k.false),
    )

pub returns : goal.returns
returns c = left_end _ _ c.loop-low.invariant.3 (omega arith)
