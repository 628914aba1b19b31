-- `StaticRow::put` meets its contract: three patches, one behind the other. Assumes nothing.
use mathlib.Core.Path.{◌≡◌}
use Prim.Native.Nat.{◌+◌}
use native.Mathlib.Omega.{arith}
use lib.ListN.{length}
use Rattle.octets.specs.Numbers.{be_octets}
use Rattle.octets.proofs.NumberLaws.{length-be_octets}
use Rattle.octets.proofs.PartLaws.{patch-three}
use Rattle.block.specs.Image.{static_octets}
use Rattle.block.proofs.rows.StaticRowRow.put.Goals as goal

pub returns : goal.returns
unfolding static_octets
returns c =
    let a = c.args in
    let l₁ : length (be_octets 7 a.key) ≡ 7 = length-be_octets 7 a.key in
    let l₂ : length (be_octets 1 a.self.now.status) ≡ 1 = length-be_octets 1 a.self.now.status in
    let l₃ : length (be_octets 8 a.self.now.allowed) ≡ 8 = length-be_octets 8 a.self.now.allowed in
    cc (patch-three a.s.now a.at (be_octets 7 a.key) (be_octets 1 a.self.now.status) (be_octets 8 a.self.now.allowed) (a.at + 7) (a.at + 8) (omega arith) (omega arith) (omega arith))
