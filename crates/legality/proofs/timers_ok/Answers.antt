-- `legality::timers_ok` meets its contract. Assumes nothing.
use borrow.Author.Tests.{eq-eqb, ne_eqb}
use Rattle.names.specs.Devices.{transparent}
use Rattle.block.specs.Valid.{timers_ok}
use Rattle.legality.proofs.timers_ok.Goals as goal

pub returns-then-device-ne-TRANSPARENT : goal.returns-then-device-ne-TRANSPARENT
returns-then-device-ne-TRANSPARENT c = rw (ne_eqb c.args.device transparent c.if-device-ne-TRANSPARENT.true)

pub returns : goal.returns
unfolding timers_ok
returns c =
    rw (
      eq-eqb c.args.device transparent c.if-device-ne-TRANSPARENT.false,
      ← c.timer-age.ensures,
      ← c.timer-hello.ensures,
      ← c.timer-delay.ensures,
    )
    c.belong_together.ensures
