use mathlib.Core.Path.{◌≡◌, refl, sym, ap, subst, ◌∙◌}
use mathlib.Core.List.{List}
use native.Mathlib.Omega.{arith}
use Prim.Native.Nat.{ℕ}
use lib.ListN.{get_or}
use Rattle.console.specs.Batch.{octets_at, Within}
use Rattle.batch.specs.Theorems.{numbered}
use Rattle.orders.specs.Batches.{messages_of}
use Rattle.orders.proofs.BatchLaws.{numbered-octets, numbered_within, sofar-none, sofar-all, sofar-more}
use Rattle.orders.proofs.batches.play_batch.Goals as goal

pub loop-k-init : goal.loop-k-init
loop-k-init c =
    let a = c.args in
    (sofar-none a.block.now a.batch.now a.order.now a.rooms.now _ c.requires.1 refl, refl)

pub play_turn-requires : goal.play_turn-requires
play_turn-requires c =
    let a = c.args in
    let b = a.batch.now in
    let f = c.frames_of-frames in
    let i : ℕ = get_or a.order.now c.loop-k.k 0 in (
      subst (Within b) (sym c.message_numbered-s.ensures) (numbered_within b f.result.spans f.result.count i f.ensures.2),
      omega (arith, c.requires.0),
      c.loop-k.invariant.0.long,
    )

pub loop-k-preserved : goal.loop-k-preserved
loop-k-preserved c =
    let a = c.args in
    let b = a.batch.now in
    let l = c.loop-k in
    let f = c.frames_of-frames in
    let i : ℕ = get_or a.order.now l.k 0 in
    let em : octets_at b c.message_numbered-s.result ≡ numbered (messages_of b) i =
    ap (octets_at b) c.message_numbered-s.ensures ∙ numbered-octets b f.result.spans f.result.count i
    ∙ ap (λ (r : List (List ℕ) × ℕ). numbered r.0 i) f.ensures.0 in (
      sofar-more a.block.now b a.order.now a.rooms.now l.invariant.0 c.loop-k-test.true (omega (arith, c.requires.0)) em c.play_turn.ensures,
      omega (arith, l.invariant.1),
    )

pub shape_of-block : goal.shape_of-block
shape_of-block c = omega (arith, c.loop-k.invariant.1)

pub shape_of-rooms : goal.shape_of-rooms
shape_of-rooms c = omega (arith, c.loop-k.invariant.0.long, c.requires.1)

pub returns : goal.returns
returns c = sofar-all c.args.block.now c.args.batch.now c.args.order.now c.args.rooms.now c.loop-k.invariant.0 (omega arith)
