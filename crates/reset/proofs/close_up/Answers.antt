use mathlib.Core.Path.{◌≡◌, refl, sym, ap, ◌∙◌}
use mathlib.Core.List.{List}
use Prim.Native.Nat.{ℕ, ◌+◌, ◌<◌}
use native.Mathlib.Omega.{arith}
use lib.ListN.{length, take}
use Rattle.block.specs.Layout.{block_size}
use Rattle.block.specs.Content.{Content, with_statics}
use Rattle.block.specs.Image.{image, content_of}
use Rattle.block.specs.declared.rows.StaticRow.{StaticRow}
use Rattle.block.proofs.ImageLaws.{length-image}
use Rattle.block.specs.Stored.{Storable}
use Rattle.block.proofs.RoundLaws.{valid-storable, legal-valid}
use Rattle.reset.specs.Reset.{stay}
use Rattle.reset.specs.Closing.{closing, IsImage, moved, next_free}
use Rattle.reset.proofs.ResetLaws.{turned, turned-first, none_written, take_all, turned-storable, stored-held, written-short, length-closing, turn}
use Rattle.reset.proofs.close_up.Goals as goal

pub row_count-n-requires : goal.row_count-n-requires
row_count-n-requires c = (legal-valid c.args.block.now c.requires).2

pub loop-i-init : goal.loop-i-init
loop-i-init c =
    let b = c.args.block.now in
    (refl, none_written (content_of b), sym (ap image (turned-first (content_of b)) ∙ (legal-valid b c.requires).1))

-- what stands before a turn: the content, and the block as its image
module _ (b x : List ℕ) (i : ℕ) (stored : Storable (content_of b)) (few : i < length (content_of b).statics) (e : x ≡ image (turned (content_of b) i)) where
  reads : content_of x ≡ turned (content_of b) i
  reads = (stored-held (turned (content_of b) i) (turned-storable (content_of b) i stored (omega arith)) e).0

  holds : IsImage x
  holds = (stored-held (turned (content_of b) i) (turned-storable (content_of b) i stored (omega arith)) e).1

  inside : i < length (content_of x).statics
  inside = omega (arith, ap (λ (c : Content). length c.statics) reads, length-closing (content_of b).statics i (omega arith))

  -- and behind it
  after : {j r : ℕ} {y : List ℕ} → j ≡ length (stay (take i (content_of b).statics)) → r ≡ next_free (content_of x) j i → y ≡ image (moved (content_of x) j i)
      → (r ≡ length (stay (take (i + 1) (content_of b).statics))) × (y ≡ image (turned (content_of b) (i + 1)))
  after {j} {r} {y} q p s =
      let t = turn (content_of b) i few in (
        p ∙ (λ z. next_free (reads z) (q z) i) ∙ t.1,
        s ∙ (λ z. image (moved (reads z) (q z) i)) ∙ ap image t.0,
      )

pub move_row-kept-requires : goal.move_row-kept-requires
move_row-kept-requires c =
    let l = c.loop-i in
    let b = c.args.block.now in
    let stored : Storable (content_of b) = valid-storable (content_of b) (legal-valid b c.requires).0 in
    let few : l.i < length (content_of b).statics = omega (arith, c.loop-i-test.true, c.row_count-n.ensures) in (
      holds b l.block l.i stored few l.invariant.2,
      inside b l.block l.i stored few l.invariant.2,
      omega (arith, l.invariant.1, written-short (content_of b).statics l.i (omega arith)),
    )

pub loop-i-preserved : goal.loop-i-preserved
loop-i-preserved c =
    let m = c.move_row-kept in
    let l = c.loop-i in
    let b = c.args.block.now in
    let stored : Storable (content_of b) = valid-storable (content_of b) (legal-valid b c.requires).0 in
    let few : l.i < length (content_of b).statics =
    omega (arith, c.loop-i-test.true, c.row_count-n.ensures) in
    let t = after b l.block l.i stored few l.invariant.2 l.invariant.1 m.ensures.0 m.ensures.1 in
    let r : Storable (turned (content_of b) (l.i + 1)) = turned-storable (content_of b) (l.i + 1) stored (omega arith) in
    let size : length (image (turned (content_of b) (l.i + 1))) ≡ block_size = length-image (turned (content_of b) (l.i + 1)) r.shape in
    (ap length t.1 ∙ size ∙ sym (legal-valid b c.requires).2, t.0, t.1)

pub shape_of-block : goal.shape_of-block
shape_of-block c = c.loop-i.invariant.0

pub returns : goal.returns
returns c =
    let l = c.loop-i in
    let b = c.args.block.now in
    let n = c.row_count-n in
    let e : l.i ≡ length (content_of b).statics = omega (arith, n.ensures, c.loop-i-test.false) in
    let a : take l.i (content_of b).statics ≡ (content_of b).statics = take_all (content_of b) l.i e in (
      l.invariant.1 ∙ ap (λ (r : List (ℕ × StaticRow)). length (stay r)) a,
      l.invariant.2 ∙ ap (λ (r : List (ℕ × StaticRow)). image (with_statics (content_of b) (closing r (content_of b).statics))) a,
    )
