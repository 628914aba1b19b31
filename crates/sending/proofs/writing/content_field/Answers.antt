-- `sending::writing::content_field` meets its contract. Assumes nothing.
use native.Mathlib.Omega.{arith}
use Prim.Native.Nat.{◌+◌}
use lib.ListN.{length}
use Rattle.sending.specs.Writing.{content_ber}
use Rattle.sending.proofs.WriteLaws.{put-length, content-most}
use Rattle.sending.proofs.SendLaws.{field_put}
use Rattle.sending.proofs.writing.content_field.Goals as goal

pub header_before-requires : goal.header_before-requires
header_before-requires c =
    let a = c.args in
    let w = c.requires in
    let e = c.content_before-q.ensures in
    omega (arith, w.1, w.2, w.3, e.starts, content-most a.tag a.xs.now, put-length a.out.now _ a.p (content_ber a.tag a.xs.now) e.starts w.2 e.filled)

pub returns : goal.returns
returns c =
    let a = c.args in
    let w = c.requires in
    rw (← c.ber_tag.ensures)
    (field_put a.out.now _ a.p (length a.xs.now + 1) c.ber_tag.result _ (content_ber a.tag a.xs.now) c.content_before-q.ensures w.2 (content-most a.tag a.xs.now) c.header_before.ensures)
