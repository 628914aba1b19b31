-- `sending::datagram_front` meets its contract. Assumes nothing.
use native.Mathlib.Omega.{arith}
use mathlib.Core.Path.{◌≡◌}
use Prim.Native.Nat.{ℕ, ◌+◌, ◌-◌, ◌≤◌}
use lib.ListN.{length}
use Rattle.sending.specs.Writing.{header_form}
use Rattle.sending.proofs.WriteLaws.{header-most}
use Rattle.sending.proofs.SendLaws.{datagram-front-put}
use Rattle.sending.proofs.datagram_front.Goals as goal

-- a header has at most four octets
header-fits : (q p len : ℕ) → q + length (header_form 0x04 len) ≡ p → p ≤ q + 4
header-fits q p len e = omega (arith, header-most 0x04 len)

pub version_field-v-requires : goal.version_field-v-requires
version_field-v-requires c = omega (arith, header-fits _ _ _ c.header_before-c.ensures.starts)

pub header_before-requires : goal.header_before-requires
header_before-requires c = omega (arith, header-fits _ _ _ c.header_before-c.ensures.starts, c.version_field-v.ensures.0.starts)

pub returns : goal.returns
returns c =
    let a = c.args in
    let w = c.requires in
    let h = c.header_before-c.ensures in
    let v = c.version_field-v in
    let r = c.header_before.ensures in (
      datagram-front-put _ _ _ w.1 h v.ensures.0 r,
      omega (arith, h.starts, header-most 0x04 a.community, v.ensures.1, r.starts, header-most 0x30 (a.p - v.result + (a.community + a.rest))),
    )
