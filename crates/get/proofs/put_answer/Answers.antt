-- `get::put_answer` meets its contract: a head and the bindings behind it, or the head of tooBig alone. Assumes nothing.
use mathlib.Core.Path.{sym, ◌∙◌}
use mathlib.Core.List.{List}
use Prim.Native.Nat.{◌+◌, ◌≤◌, ◌<◌}
use native.Mathlib.Omega.{arith}
use borrow.Author.Tests.{leb-true, leb-false}
use Rattle.block.specs.Image.{content_of}
use Rattle.message.specs.Answer.{Bound, bindings_size, most_octets}
use Rattle.get.specs.Replies.{replied_all}
use Rattle.get.proofs.ReplyTurns.{answer-put, answer-short}
use Rattle.get.proofs.put_answer.Goals as goal

pub put_replies-requires : goal.put_replies-requires
put_replies-requires c =
    let m = c.measured-total in
    let n : m.result ≤ most_octets =
    leb-true _ _ (sym c.fits.ensures ∙ c.if-fits.true) in
    (c.requires.0, c.requires.1, omega (arith, m.ensures))

pub returns-then-fits : goal.returns-then-fits
returns-then-fits c =
    let a = c.args in
    let m = c.measured-total in
    let n : m.result ≤ most_octets =
    leb-true _ _ (sym c.fits.ensures ∙ c.if-fits.true) in
    let bs : List Bound = replied_all a.request.now (content_of a.block.now) a.kind a.bindings.now in
    let p = answer-put a.room.now a.id bs (omega (arith, m.ensures)) c.requires.2 in (
      ◌∙◌ {b = 16 + bindings_size bs} m.ensures p.0,
      rw (c.put_replies.ensures, c.put_head.ensures) p.1,
    )

pub returns : goal.returns
returns c =
    let a = c.args in
    let m = c.measured-total in
    let n : most_octets < m.result =
    leb-false _ _ (sym c.fits.ensures ∙ c.if-fits.false) in
    let bs : List Bound = replied_all a.request.now (content_of a.block.now) a.kind a.bindings.now in
    let p = answer-short a.room.now a.id bs (omega (arith, m.ensures)) in
    (p.0, c.put_head-2.ensures ∙ p.1)
