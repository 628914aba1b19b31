-- `block::tables::room_in` meets its contract. Assumes nothing.
use borrow.Author.Tests.{eq-eqb, ne_eqb}
use Rattle.block.proofs.tables.room_in.Goals as goal

pub returns-then-device-device_of : goal.returns-then-device-device_of
returns-then-device-device_of c =
    rw (← c.device_of.ensures, eq-eqb c.args.device c.device_of.result c.if-device-device_of.true, c.standing_of-at.ensures)

pub returns : goal.returns
returns c =
    rw (← c.device_of.ensures, ne_eqb c.args.device c.device_of.result c.if-device-device_of.false)
