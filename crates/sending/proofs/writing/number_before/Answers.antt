-- `sending::writing::number_before` meets its contract. Assumes nothing.
use native.Mathlib.Omega.{arith}
use mathlib.Core.Path.{ap}
use lib.ListN.{length}
use Rattle.sending.proofs.WriteLaws.{number_put, shortened-most}
use Rattle.sending.proofs.writing.number_before.Goals as goal

pub overflow_sub-p : goal.overflow_sub-p
overflow_sub-p c = omega (arith, c.requires.0, ap length c.shortest-fewest.ensures, shortened-most c.args.xs.now)

pub copy_in-requires : goal.copy_in-requires
copy_in-requires c = omega (arith, c.requires.0, ap length c.shortest-fewest.ensures, shortened-most c.args.xs.now)

pub overflow_sub-result : goal.overflow_sub-result
overflow_sub-result c = omega (arith, c.requires.0, ap length c.shortest-fewest.ensures, shortened-most c.args.xs.now)

pub returns : goal.returns
returns c = number_put c.args.xs.now c.args.out.now c.args.p c.requires.0 c.shortest-fewest.ensures c.copy_in.ensures
