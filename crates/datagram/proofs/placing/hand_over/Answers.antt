-- `datagram::placing::hand_over` meets its contract. Assumes nothing.
use native.Mathlib.Omega.{arith}
use mathlib.Core.Path.{sym, ap, ◌∙◌}
use borrow.Author.Tests.{leb-true, leb-false}
use Rattle.message.specs.Answer.{most_octets}
use Rattle.datagram.specs.declared.placing.RbDatagram.{RbDatagram}
use Rattle.datagram.specs.Reading.{given}
use Rattle.datagram.proofs.PlaceLaws.{head-length, handed-whole, handed-long}
use Rattle.datagram.proofs.placing.hand_over.Goals as goal

pub put_bindings-requires : goal.put_bindings-requires
put_bindings-requires c = (c.requires.0, c.requires.1.held, omega (arith, head-length c.args.room.now c.args.read.now.kind c.args.read.now.id c.args.read.now.status c.args.read.now.index c.put_head.ensures c.requires.2, c.measured-total.ensures, leb-true c.measured-total.result most_octets (sym c.fits.ensures ∙ c.if-fits.true), c.requires.2))

pub overflow_cast-result : goal.overflow_cast-result
overflow_cast-result c = omega (arith, leb-true c.measured-total.result most_octets (sym c.fits.ensures ∙ c.if-fits.true))

pub returns-then-fits : goal.returns-then-fits
returns-then-fits c = handed-whole _ _ _ _ _ _ _ c.measured-total.ensures (leb-true c.measured-total.result most_octets (sym c.fits.ensures ∙ c.if-fits.true)) c.requires.2 c.put_head.ensures c.put_bindings.ensures

pub returns : goal.returns
returns c = ap (λ (u : RbDatagram). given u c.args.room.now) c.from.ensures ∙ (handed-long _ _ _ _ _ _ _ c.measured-total.ensures (leb-false c.measured-total.result most_octets (sym c.fits.ensures ∙ c.if-fits.false)))
