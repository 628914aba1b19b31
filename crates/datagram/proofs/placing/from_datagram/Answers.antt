-- `datagram::placing::from_datagram` meets its contract. Assumes nothing.
use native.Mathlib.Omega.{arith}
use mathlib.Core.Path.{ap, ◌∙◌}
use Rattle.datagram.specs.declared.placing.RbDatagram.{RbDatagram}
use Rattle.datagram.specs.Reading.{given}
use Rattle.datagram.proofs.ReadLaws.{told, told-refused}
use Rattle.datagram.proofs.PlaceLaws.{call-short, call_long, call-refused, call-read}
use Rattle.datagram.proofs.placing.from_datagram.Goals as goal

pub returns-then-room-lt-MOST_OCTETS : goal.returns-then-room-lt-MOST_OCTETS
returns-then-room-lt-MOST_OCTETS c = ap (λ (u : RbDatagram). given u c.args.room.now) c.from.ensures ∙ call-short c.args.answers c.args.room.now c.args.datagram.now (omega arith)

pub returns-then-datagram-gt-MOST_OCTETS : goal.returns-then-datagram-gt-MOST_OCTETS
returns-then-datagram-gt-MOST_OCTETS c =
    ap (λ (u : RbDatagram). given u c.args.room.now) c.from-then-datagram-gt-MOST_OCTETS.ensures ∙ (call_long c.args.answers c.args.room.now c.args.datagram.now (omega arith) (omega arith))

pub hand_over-requires : goal.hand_over-requires
hand_over-requires c = (omega arith, (told c.args.datagram.now c.args.answers c.in-Ok.ensures).reads, omega arith)

pub returns-in-Err : goal.returns-in-Err
returns-in-Err c =
    ap (λ (u : RbDatagram). given u c.args.room.now) c.from-in-Err.ensures ∙ (call-refused c.args.answers c.args.room.now c.args.datagram.now (omega arith) (omega arith) (told-refused c.args.datagram.now c.args.answers c.in-Err.ensures))

pub returns-in-Ok : goal.returns-in-Ok
returns-in-Ok c = c.hand_over.ensures ∙ call-read c.args.answers c.args.room.now c.args.datagram.now (omega arith) (omega arith) (told c.args.datagram.now c.args.answers c.in-Ok.ensures).reading
