-- `VlanRow::put` meets its contract: three patches, one behind the other. Assumes nothing.
use mathlib.Core.Path.{◌≡◌}
use Prim.Native.Nat.{◌+◌}
use native.Mathlib.Omega.{arith}
use lib.ListN.{length}
use Rattle.octets.proofs.PartLaws.{patch-three}
use Rattle.block.specs.Image.{vlan_front, vlan_sets, vlan_octets}
use Rattle.block.proofs.LengthLaws.{length_front, length-sets, fit_to-same}
use borrow.Author.Rules.{rules}
use Rattle.block.proofs.rows.VlanRowRow.put.Goals as goal

pub copy_in-requires : goal.copy_in-requires
copy_in-requires c =
    let h : length c.args.self.now.name ≡ 32 = search rules in
    omega arith

pub returns : goal.returns
unfolding vlan_octets
returns c =
    let a = c.args in
    let l₁ : length (vlan_front a.key a.self.now.status a.self.now.len) ≡ 4 = length_front a.key a.self.now.status a.self.now.len in
    let l₂ : length a.self.now.name ≡ 32 = search rules in
    let l₃ : length (vlan_sets a.self.now.egress a.self.now.forbidden a.self.now.untagged) ≡ 24 = length-sets a.self.now.egress a.self.now.forbidden a.self.now.untagged in
    rw (fit_to-same 32 a.self.now.name l₂)
    (cc (patch-three a.s.now a.at (vlan_front a.key a.self.now.status a.self.now.len) a.self.now.name (vlan_sets a.self.now.egress a.self.now.forbidden a.self.now.untagged)
    (a.at + 4) (a.at + 36) (omega arith) (omega arith) (omega arith)))
