-- `block::rows::put_vlan_sets` meets its contract: three patches, one behind the other. Assumes nothing.
use mathlib.Core.Path.{◌≡◌}
use Prim.Native.Nat.{◌+◌}
use native.Mathlib.Omega.{arith}
use lib.ListN.{length}
use Rattle.octets.specs.Numbers.{be_octets}
use Rattle.octets.proofs.NumberLaws.{length-be_octets}
use Rattle.octets.proofs.PartLaws.{patch-three}
use Rattle.block.specs.Image.{vlan_sets}
use Rattle.block.proofs.rows.put_vlan_sets.Goals as goal

pub returns : goal.returns
unfolding vlan_sets
returns c =
    let a = c.args in
    let l₁ : length (be_octets 8 a.egress) ≡ 8 = length-be_octets 8 a.egress in
    let l₂ : length (be_octets 8 a.forbidden) ≡ 8 = length-be_octets 8 a.forbidden in
    let l₃ : length (be_octets 8 a.untagged) ≡ 8 = length-be_octets 8 a.untagged in
    cc (patch-three a.s.now a.at (be_octets 8 a.egress) (be_octets 8 a.forbidden) (be_octets 8 a.untagged) (a.at + 8) (a.at + 16) (omega arith) (omega arith) (omega arith))
