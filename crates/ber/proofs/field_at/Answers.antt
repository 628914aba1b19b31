-- `ber::field_at` meets its contract. Assumes nothing.
use native.Mathlib.Omega.{arith}
use Prim.Native.Nat.{◌+◌}
use mathlib.Core.Path.{◌∙◌, ap}
use lib.ListN.{length}
use Rattle.std.proofs.Common.{rules}
use Rattle.ber.specs.Ber.{at_most}
use Rattle.octets.proofs.PartLaws.{part_length}
use Rattle.ber.proofs.BerLaws.{octets-out, octets-within, field-none, field_cut, field-whole, said-lent}
use Rattle.ber.proofs.field_at.Goals as goal

pub returns-then-e-at : goal.returns-then-e-at
returns-then-e-at c = field-none _ _ _ (octets-out _ _ _ (omega arith))

pub returns-in_err-n : goal.returns-in_err-n
returns-in_err-n c =
    let e = field-none _ _ _ c.in_err-n.ensures in
    rw (← e) (search rules)

pub overflow_add-start-2 : goal.overflow_add-start-2
overflow_add-start-2 c = omega (arith, octets-within _ _ _ c.in_ok-n.ensures)

pub contents-requires : goal.contents-requires
contents-requires c = omega (arith, octets-within _ _ _ c.in_ok-n.ensures)

pub overflow_sub-e : goal.overflow_sub-e
overflow_sub-e c = omega (arith, octets-within _ _ _ c.in_ok-n.ensures)

pub length_said-requires : goal.length_said-requires
length_said-requires c =
    let w = octets-within _ _ _ c.in_ok-n.ensures in
    let l = ap length c.contents.ensures ∙ part_length c.args.e.octets.now (c.args.at + 1) c.in_ok-n.n (omega arith) in
    (omega arith, omega arith)

pub returns-in_err-len : goal.returns-in_err-len
returns-in_err-len c =
    let e = field_cut _ _ _ c.in_ok-n.ensures (c.in_err-len.ensures ∙ ap (at_most _) (said-lent _ _ _ c.contents.ensures (omega (arith, octets-within _ _ _ c.in_ok-n.ensures)))) in
    rw (← e) (search rules)

pub returns : goal.returns
returns c = field-whole _ _ _ c.in_ok-n.ensures (c.in_ok-len.ensures ∙ ap (at_most _) (said-lent _ _ _ c.contents.ensures (omega (arith, octets-within _ _ _ c.in_ok-n.ensures))))
