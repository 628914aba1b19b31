use mathlib.Core.List.{List}
use mathlib.Core.Path.{refl, sym, ap, ◌∙◌}
use native.Mathlib.Omega.{arith}
use borrow.Author.Rules.{rules}
use Rattle.octets.specs.Parts.{patch}
use Rattle.octets.proofs.PartLaws.{patch-none}
use Rattle.block.specs.Image.{content_of}
use Rattle.block.proofs.RoundLaws.{legal-valid}
use Rattle.message.specs.Request.{no_binding}
use Rattle.message.specs.Answer.{Bound, bindings_octets}
use Rattle.get.proofs.ReplyTurns.{replied-none, Turn, turn, turn-put}
use Rattle.get.proofs.put_replies.Goals as goal

pub loop-b-init : goal.loop-b-init
loop-b-init c = (refl, refl, refl)

pub overflow_add-name : goal.overflow_add-name
overflow_add-name c =
    let w = c.requires.1 in
    omega (arith, w.within c.loop-b.b-index no_binding (omega arith))

pub slice_bounds-name-start : goal.slice_bounds-name-start
slice_bounds-name-start c =
    let w = c.requires.1 in
    omega (arith, w.within c.loop-b.b-index no_binding (omega arith))

pub slice_bounds-name-end : goal.slice_bounds-name-end
slice_bounds-name-end c =
    let w = c.requires.1 in
    omega (arith, w.within c.loop-b.b-index no_binding (omega arith))

pub put_reply-to-requires : goal.put_reply-to-requires
put_reply-to-requires c =
    let a = c.args in
    let t : Turn a.request.now (content_of a.block.now) a.kind a.bindings.now c.loop-b.b-index c.instance_for.result =
    turn _ _ _ _ _ _ (λ j. omega (arith, c.type_inv.request j)) (legal-valid _ c.requires.0).0 c.requires.1 (omega arith)
    c.instance_for.ensures in
    (c.requires.0, t.short, t.shown, omega (arith, t.counts))

pub loop-b-preserved : goal.loop-b-preserved
loop-b-preserved c =
    let o = c.loop-b in
    let a = c.args in
    let t : Turn a.request.now (content_of a.block.now) a.kind a.bindings.now c.loop-b.b-index c.instance_for.result =
    turn _ _ _ _ _ _ (λ j. omega (arith, c.type_inv.request j)) (legal-valid _ c.requires.0).0 c.requires.1 (omega arith)
    c.instance_for.ensures in
    let r = c.put_reply-to in
    let p = turn-put _ _ _ _ _ _ o.room o.to t (omega arith) in (
      search rules,
      omega (arith, r.ensures.1, t.counts),
      rw (r.ensures.1, r.ensures.0) (sym p ∙ o.invariant.2),
    )

pub returns : goal.returns
unfolding bindings_octets
returns c =
    let a = c.args in
    let o = c.loop-b in
    let e = replied-none a.request.now (content_of a.block.now) a.kind a.bindings.now o.b-index (omega arith) in
    patch-none o.room o.to ∙ ap (λ (x : List Bound). patch o.room o.to (bindings_octets x)) (sym e) ∙ o.invariant.2
