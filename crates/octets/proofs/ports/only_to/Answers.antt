-- `octets::ports::only_to` meets its contract. Assumes nothing.
use mathlib.Core.Path.{◌≡◌, ◌∙◌}
use Prim.Native.Nat.{◌-◌, ◌*◌, ◌%◌, ◌^◌}
use native.Mathlib.Nat.{one-mul}
use native.Mathlib.Omega.{arith}
use lib.Pow.{shl_exact}
use Rattle.octets.specs.Ports.{only_to}
use Rattle.octets.proofs.ports.only_to.Goals as goal

-- the divisor
power : (c : goal.Start) → 1 * 2 ^ (64 - c.args.n) % 2 ^ 64 ≡ 2 ^ (64 - c.args.n)
power c = shl_exact {a = 1} 1 (64 - c.args.n) 64 (omega arith) (omega arith) ∙ one-mul (2 ^ (64 - c.args.n))

pub returns : goal.returns
unfolding only_to
returns c = rw (power c)
