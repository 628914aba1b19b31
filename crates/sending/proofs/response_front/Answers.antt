-- `sending::response_front` meets its contract. Assumes nothing.
use native.Mathlib.Omega.{arith}
use Prim.Native.Nat.{◌+◌, ◌-◌}
use Rattle.sending.proofs.WriteLaws.{header-most}
use Rattle.sending.proofs.SendLaws.{response-front-put}
use Rattle.sending.proofs.response_front.Goals as goal

pub octet_field-x-requires : goal.octet_field-x-requires
octet_field-x-requires c = omega (arith, c.requires.0, c.requires.1, c.header_before-l.ensures.starts, header-most 0x30 c.args.size)

pub octet_field-t-requires : goal.octet_field-t-requires
octet_field-t-requires c = omega (arith, c.requires.0, c.requires.1, c.header_before-l.ensures.starts, header-most 0x30 c.args.size, c.octet_field-x.ensures.0.starts, c.octet_field-x.ensures.1)

pub id_field-i-requires : goal.id_field-i-requires
id_field-i-requires c = omega (arith, c.requires.0, c.requires.1, c.header_before-l.ensures.starts, header-most 0x30 c.args.size, c.octet_field-x.ensures.0.starts, c.octet_field-x.ensures.1, c.octet_field-t.ensures.0.starts, c.octet_field-t.ensures.1)

pub header_before-requires : goal.header_before-requires
header_before-requires c = omega (arith, c.requires.0, c.requires.1, c.requires.2, c.header_before-l.ensures.starts, header-most 0x30 c.args.size, c.octet_field-x.ensures.0.starts, c.octet_field-x.ensures.1, c.octet_field-t.ensures.0.starts, c.octet_field-t.ensures.1, c.id_field-i.ensures.0.starts, c.id_field-i.ensures.1)

pub returns : goal.returns
returns c =
    let a = c.args in
    let w = c.requires in
    let h = c.header_before-l.ensures in
    let x = c.octet_field-x.ensures in
    let t = c.octet_field-t.ensures in
    let i = c.id_field-i in
    let r = c.header_before.ensures in (
      response-front-put _ _ _ _ _ w.1 h x.0 t.0 i.ensures.0 r,
      omega (arith, h.starts, header-most 0x30 a.size, x.1, t.1, i.ensures.1, r.starts, header-most 0xA2 (a.p - i.result + a.size)),
    )
