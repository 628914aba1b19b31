-- `refbridge::comparison::refused` meets its contract. Assumes nothing.
use Rattle.refbridge.proofs.comparison.refused.Goals as goal

pub returns-in-Walk : goal.returns-in-Walk
returns-in-Walk c = rw (c.in-Walk.is, ← c.from.ensures) c.numbered.ensures

pub returns-in-ListLong : goal.returns-in-ListLong
returns-in-ListLong c = rw c.in-ListLong.is c.numbered-in-ListLong.ensures
