-- `console::state::Front::put_bare` meets its contract: zeros behind a front. Assumes nothing.
use native.Mathlib.Omega.{arith}
use Rattle.console.proofs.StateLaws.{bare-put}
use Rattle.console.proofs.state.Front.put_bare.Goals as goal

pub returns : goal.returns
returns c =
    let a = c.args in
    cc (bare-put a.saved.now a.self.phase a.self.count a.self.size (omega arith))
