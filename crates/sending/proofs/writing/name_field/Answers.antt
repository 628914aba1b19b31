-- `sending::writing::name_field` meets its contract. Assumes nothing.
use native.Mathlib.Omega.{arith}
use Prim.Native.Nat.{◌*◌, ◌/◌}
use lib.ListN.{length}
use Rattle.sending.specs.Writing.{name_ber}
use Rattle.sending.proofs.WriteLaws.{name-most, put-length}
use Rattle.sending.proofs.SendLaws.{field_put}
use Rattle.sending.proofs.writing.name_field.Goals as goal

pub header_before-requires : goal.header_before-requires
header_before-requires c =
    let a = c.args in
    let w = c.requires in
    let e = c.name_before-q.ensures in
    omega (arith, w.1, w.2, w.4, e.starts, name-most a.name.now, put-length a.out.now _ a.p (name_ber a.name.now) e.starts w.2 e.filled)

pub returns : goal.returns
returns c =
    let a = c.args in
    let w = c.requires in
    field_put a.out.now _ a.p (5 * (length a.name.now / 4)) 0x06 _ (name_ber a.name.now) c.name_before-q.ensures w.2 (name-most a.name.now) c.header_before.ensures
