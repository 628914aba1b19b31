-- `ber::put_number` meets its contract. Assumes nothing.
use native.Mathlib.Omega.{arith}
use mathlib.Core.Path.{ap, ◌∙◌}
use Prim.Native.Nat.{ℕ, ◌+◌, ◌-◌, ◌*◌}
use Rattle.octets.specs.Numbers.{be_octets}
use Rattle.octets.specs.Parts.{patch}
use mathlib.Core.List.{List}
use Rattle.ber.proofs.NameLaws.{made-two, made_one, first_small, made-put, other-put}
use Rattle.ber.proofs.put_number.Goals as goal

pub put-requires : goal.put-requires
put-requires c = omega (arith, made-two c.args.first c.args.n c.if-first.true)

pub overflow_mul-f : goal.overflow_mul-f
overflow_mul-f c = omega (arith, first_small c.args.n, c.first_of-f.ensures)

pub overflow_sub-n : goal.overflow_sub-n
overflow_sub-n c = omega (arith, first_small c.args.n, c.first_of-f.ensures)

pub put-requires-then-first : goal.put-requires-then-first
put-requires-then-first c = omega (arith, made-two c.args.first c.args.n c.if-first.true)

pub returns-then-first : goal.returns-then-first
returns-then-first c = (omega (arith, made-two c.args.first c.args.n c.if-first.true), c.put-then-first.ensures ∙ ap (λ (u : List ℕ). patch u (c.args.at + 4) (be_octets 4 (c.args.n - 40 * c.first_of-f.result))) c.put.ensures ∙ made-put _ _ _ _ _ c.if-first.true c.first_of-f.ensures (omega (arith, made-two c.args.first c.args.n c.if-first.true)))

pub put-requires-2 : goal.put-requires-2
put-requires-2 c = omega (arith, made_one c.args.first c.args.n c.if-first.false)

pub returns : goal.returns
returns c = (omega (arith, made_one c.args.first c.args.n c.if-first.false), c.put-2.ensures ∙ other-put _ _ _ _ c.if-first.false)
