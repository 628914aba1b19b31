use mathlib.Core.Path.{ap}
use native.Mathlib.Omega.{arith}
use Rattle.block.specs.Image.{content_of}
use Rattle.block.proofs.RoundLaws.{legal-valid}
use Rattle.message.specs.Request.{no_binding}
use Rattle.message.specs.Answer.{bindings_size}
use Rattle.get.proofs.ReplyTurns.{replied-none, Turn, turn}
use Rattle.get.proofs.measured.Goals as goal

pub overflow_add-name : goal.overflow_add-name
overflow_add-name c =
    let w = c.requires.1 in
    omega (arith, w.within c.loop-b.b-index no_binding (omega arith))

pub slice_bounds-name-start : goal.slice_bounds-name-start
slice_bounds-name-start c =
    let w = c.requires.1 in
    omega (arith, w.within c.loop-b.b-index no_binding (omega arith))

pub slice_bounds-name-end : goal.slice_bounds-name-end
slice_bounds-name-end c =
    let w = c.requires.1 in
    omega (arith, w.within c.loop-b.b-index no_binding (omega arith))

pub reply_size-total-requires : goal.reply_size-total-requires
reply_size-total-requires c =
    let a = c.args in
    let t : Turn a.request.now (content_of a.block.now) a.kind a.bindings.now c.loop-b.b-index c.instance_for.result =
    turn _ _ _ _ _ _ (λ j. omega (arith, c.type_inv.request j)) (legal-valid _ c.requires.0).0 c.requires.1 (omega arith)
    c.instance_for.ensures in
    (c.requires.0, t.short, t.shown)

pub overflow_add-total : goal.overflow_add-total
overflow_add-total c =
    let a = c.args in
    let t : Turn a.request.now (content_of a.block.now) a.kind a.bindings.now c.loop-b.b-index c.instance_for.result =
    turn _ _ _ _ _ _ (λ j. omega (arith, c.type_inv.request j)) (legal-valid _ c.requires.0).0 c.requires.1 (omega arith)
    c.instance_for.ensures in
    omega (arith, c.reply_size-total.ensures, t.small)

pub loop-b-preserved : goal.loop-b-preserved
loop-b-preserved c =
    let a = c.args in
    let t : Turn a.request.now (content_of a.block.now) a.kind a.bindings.now c.loop-b.b-index c.instance_for.result =
    turn _ _ _ _ _ _ (λ j. omega (arith, c.type_inv.request j)) (legal-valid _ c.requires.0).0 c.requires.1 (omega arith)
    c.instance_for.ensures in
    (omega (arith, c.reply_size-total.ensures, t.small), omega (arith, c.reply_size-total.ensures, t.counts))

pub returns : goal.returns
unfolding bindings_size
returns c =
    let a = c.args in
    let i = c.loop-b.b-index in
    omega (arith, ap bindings_size (replied-none a.request.now (content_of a.block.now) a.kind a.bindings.now i (omega arith)))
