-- `sending::to_datagram` meets its contract. Assumes nothing.
use native.Mathlib.Omega.{arith}
use mathlib.Core.Path.{refl, ◌∙◌}
use Rattle.sending.proofs.SendLaws.{handed, call-short, call_long, call-refused, call-read, head-refused}
use Rattle.sending.proofs.to_datagram.Goals as goal

pub returns-then-room-lt-MOST_OCTETS : goal.returns-then-room-lt-MOST_OCTETS
returns-then-room-lt-MOST_OCTETS c = (omega arith, call-short c.args.room.now c.args.community.now c.args.message.now (omega arith))

pub returns-then-message-gt-MOST_OCTETS : goal.returns-then-message-gt-MOST_OCTETS
returns-then-message-gt-MOST_OCTETS c = (omega arith, call_long c.args.room.now c.args.community.now c.args.message.now (omega arith) (omega arith))

pub returns-in_err-head : goal.returns-in_err-head
returns-in_err-head c =
    let a = c.args in
    let e = c.in_err-head.ensures in
    rw (handed _ _ c.from_residual.ensures.1)
    (omega (arith, head-refused a.message.now e refl), call-refused a.room.now a.community.now a.message.now (omega arith) (omega arith) e refl)

pub returns : goal.returns
returns c =
    let a = c.args in
    (c.send_bindings.ensures.0, c.send_bindings.ensures.1 ∙ call-read a.room.now a.community.now a.message.now (omega arith) (omega arith) c.in_ok-head.ensures refl)
