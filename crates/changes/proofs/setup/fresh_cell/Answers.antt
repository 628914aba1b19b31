-- `changes::setup::fresh_cell` meets its contract. Assumes nothing.
use native.Mathlib.Omega.{arith}
use borrow.Author.Tests.{lt-ltb, le-ltb}
use Rattle.changes.proofs.setup.fresh_cell.Goals as goal

pub returns-then-j-live : goal.returns-then-j-live
returns-then-j-live c = let a = c.args in rw (lt-ltb a.j a.live (omega arith)) c.fresh_value.ensures

pub returns : goal.returns
returns c = let a = c.args in rw (le-ltb a.j a.live (omega arith))
