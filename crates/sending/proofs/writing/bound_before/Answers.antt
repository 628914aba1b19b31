-- `sending::writing::bound_before` meets its contract. Assumes nothing.
use native.Mathlib.Omega.{arith}
use Prim.Native.Nat.{ℕ}
use mathlib.Core.Path.{ap, ◌∙◌}
use mathlib.Core.List.{List}
use lib.ListN.{length}
use Rattle.octets.proofs.PartLaws.{part_length}
use Rattle.sending.specs.Writing.{name_written}
use Rattle.sending.proofs.WriteLaws.{lent, written-own, put-length}
use Rattle.sending.proofs.SendLaws.{binding-put}
use Rattle.sending.proofs.writing.bound_before.Goals as goal

pub name_field-n-requires : goal.name_field-n-requires
name_field-n-requires c =
    let s = c.args.s.now in
    let b = c.args.b.now in
    let w = c.requires.0 in
    let n = ap length (lent s b.name b.size) ∙ part_length s b.name b.size w.named in
    let e = ap (λ (u : List ℕ). name_written u 0) (lent s b.name b.size) ∙ written-own s b.name b.size w.long ∙ w.written in
    let f = c.content_field-c.ensures in
    let m = put-length c.args.out.now _ c.args.p _ f.0.starts c.requires.2 f.0.filled in
    let l = ap length (lent s b.content b.len) ∙ part_length s b.content b.len w.filled in
    (rw n w.long, omega (arith, n, l, f.1, c.requires.1), omega (arith, m, f.0.starts, c.requires.2), e, omega (arith, f.0.starts, c.requires.3))

pub returns : goal.returns
returns c =
    let a = c.args in
    let s = a.s.now in
    let b = a.b.now in
    binding-put s b _ (lent s b.name b.size) (lent s b.content b.len) c.content_field-c.ensures.0 c.requires.2 c.name_field-n.ensures.0 c.header_before.ensures
