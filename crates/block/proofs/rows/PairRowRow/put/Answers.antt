-- `PairRow::put` meets its contract: three patches, one behind the other. Assumes nothing.
use mathlib.Core.Path.{◌≡◌}
use Prim.Native.Nat.{◌+◌}
use native.Mathlib.Omega.{arith}
use lib.ListN.{length}
use Rattle.octets.specs.Numbers.{be_octets}
use Rattle.octets.proofs.NumberLaws.{length-be_octets}
use Rattle.octets.proofs.PartLaws.{patch-three}
use Rattle.block.specs.Image.{pair_octets}
use Rattle.block.proofs.rows.PairRowRow.put.Goals as goal

pub returns : goal.returns
unfolding pair_octets
returns c =
    let a = c.args in
    let l₁ : length (be_octets 2 a.key) ≡ 2 = length-be_octets 2 a.key in
    let l₂ : length (be_octets 1 a.self.now.number) ≡ 1 = length-be_octets 1 a.self.now.number in
    let l₃ : length (be_octets 1 a.self.now.state) ≡ 1 = length-be_octets 1 a.self.now.state in
    cc (patch-three a.s.now a.at (be_octets 2 a.key) (be_octets 1 a.self.now.number) (be_octets 1 a.self.now.state) (a.at + 2) (a.at + 3) (omega arith) (omega arith) (omega arith))
