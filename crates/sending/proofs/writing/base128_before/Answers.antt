-- `sending::writing::base128_before` meets its contract. Assumes nothing.
use native.Mathlib.Omega.{arith}
use Prim.Native.Nat.{◌-◌, ◌%◌}
use lib.ListN.{length-set}
use mathlib.Core.Path.{◌∙◌}
use Rattle.sending.proofs.WriteLaws.{base128-put, put-length}
use Rattle.sending.proofs.writing.base128_before.Goals as goal

pub going_before-requires : goal.going_before-requires
going_before-requires c = omega (arith, length-set c.args.out.now (c.args.p - 1) (c.args.n % 128))

pub shape_of-out : goal.shape_of-out
shape_of-out c = put-length _ _ _ _ c.going_before.ensures.starts (omega (arith, length-set c.args.out.now (c.args.p - 1) (c.args.n % 128))) c.going_before.ensures.filled ∙ length-set c.args.out.now (c.args.p - 1) (c.args.n % 128)

pub returns : goal.returns
returns c = base128-put _ _ _ _ (omega arith) (omega arith) c.going_before.ensures
