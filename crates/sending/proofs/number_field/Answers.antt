-- `sending::number_field` meets its contract. Assumes nothing.
use native.Mathlib.Omega.{arith}
use lib.ListN.{length}
use Rattle.sending.specs.Writing.{shortened}
use Rattle.sending.proofs.WriteLaws.{put-length, shortened-most}
use Rattle.sending.proofs.SendLaws.{field_put}
use Rattle.sending.proofs.number_field.Goals as goal

pub header_before-requires : goal.header_before-requires
header_before-requires c =
    let a = c.args in
    let w = c.requires in
    let e = c.number_before-q.ensures in
    omega (arith, w.0, w.1, w.2, e.starts, shortened-most a.xs.now, put-length a.out.now _ a.p (shortened a.xs.now) e.starts w.1 e.filled)

pub returns : goal.returns
returns c =
    let a = c.args in
    let w = c.requires in
    field_put a.out.now _ a.p (length a.xs.now) 0x02 _ (shortened a.xs.now) c.number_before-q.ensures w.1 (shortened-most a.xs.now) c.header_before.ensures
