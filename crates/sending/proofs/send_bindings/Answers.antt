-- `sending::send_bindings` meets its contract. Assumes nothing.
use native.Mathlib.Omega.{arith}
use mathlib.Core.Path.{sym, ◌∙◌}
use Rattle.sending.proofs.SendLaws.{handed, answers-whole, answers-refused, bindings-sent, bindings-refused}
use Rattle.sending.proofs.send_bindings.Goals as goal

pub returns-in_err-count : goal.returns-in_err-count
returns-in_err-count c =
    let a = c.args in
    let e = c.in_err-count.ensures.0 in
    let h = c.from_residual.ensures in
    rw (handed _ _ h.1)
    (omega (arith, answers-refused a.s.now e, c.requires.0), bindings-refused a.room.now a.community.now a.s.now _ _ _ (sym e))

pub send-requires : goal.send-requires
send-requires c = (answers-whole c.args.s.now c.in_ok-count.ensures.0, c.requires.1)

pub returns : goal.returns
returns c =
    let a = c.args in
    (c.send.ensures.0, c.send.ensures.1 ∙ bindings-sent a.room.now a.community.now a.s.now _ _ _ (sym c.in_ok-count.ensures.0))
