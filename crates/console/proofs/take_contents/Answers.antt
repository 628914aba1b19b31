-- `console::take_contents` meets its contract: contents that are copied at once are those that come one by one. Assumes nothing.
use native.Mathlib.Omega.{arith}
use Rattle.console.proofs.StateLaws.{part-told, whole-told}
use Rattle.console.proofs.take_contents.Goals as goal

pub returns-then-rest-need : goal.returns-then-rest-need
returns-then-rest-need c =
    let a = c.args in
    part-told c.requires.0 a.chunk.now a.room.now a.at a.size (omega arith) (omega arith) (omega arith) c.copy_in.ensures c.put.ensures

pub returns : goal.returns
returns c =
    let a = c.args in
    whole-told c.requires.0 a.chunk.now a.room.now a.at a.size (omega arith) (omega arith) (omega arith) (omega arith) (omega arith) c.copy_in-2.ensures c.copy_in-3.ensures c.put_bare.ensures
