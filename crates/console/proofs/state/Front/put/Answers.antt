-- `console::state::Front::put` meets its contract: three stores are one front. Assumes nothing.
use native.Mathlib.Omega.{arith}
use lib.ListN.{length-set}
use Rattle.console.proofs.StateLaws.{front-put}
use Rattle.console.proofs.state.Front.put.Goals as goal

pub put-requires : goal.put-requires
put-requires c = rw length-set (omega arith)

pub put-requires-2 : goal.put-requires-2
put-requires-2 c =
    let a = c.args in
    omega (arith, c.put.auto.s, length-set a.state.now 0 a.self.phase)

pub shape_of-state : goal.shape_of-state
shape_of-state c =
    omega (arith, c.put-2.auto.s, c.put.auto.s, length-set c.args.state.now 0 c.args.self.phase)

pub returns : goal.returns
returns c =
    let a = c.args in
    cc (front-put a.state.now a.self.phase a.self.count a.self.size (omega arith))
