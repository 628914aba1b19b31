-- `octets::ports::count_members` meets its contract. Assumes nothing.
use mathlib.Core.Path.{sym}
use native.Mathlib.Omega.{arith}
use Rattle.octets.proofs.PortLaws.{members-ones}
use Rattle.octets.proofs.ports.count_members.Goals as goal

pub returns : goal.returns
returns c = sym (members-ones 64 c.args.set (omega arith))
