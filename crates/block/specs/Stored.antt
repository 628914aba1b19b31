-- Contents whose numbers have room in the octets of their images. Assumes nothing.
use Rattle.std.specs.Prelude.{◌≡◌, ℕ, ◌^◌, ◌≤◌, ◌<◌, length}
use Rattle.octets.specs.Ascending.{All}
use Rattle.block.specs.Content.{Content, WellFormed}
use Rattle.block.specs.declared.rows.VlanRow.{VlanRow}
use Rattle.block.specs.declared.rows.StaticRow.{StaticRow}
use Rattle.block.specs.declared.rows.PairRow.{PairRow}

-- a VLAN row whose parts have room in its 60 octets
pub record VlanFits (e : ℕ × VlanRow) : Type 0 where
  pub key : e.0 < 256 ^ 2
  pub status : e.1.status < 256 ^ 1
  pub len : e.1.len < 256 ^ 1
  pub name : length e.1.name ≡ 32
  pub egress : e.1.egress < 256 ^ 8
  pub forbidden : e.1.forbidden < 256 ^ 8
  pub untagged : e.1.untagged < 256 ^ 8

-- a static row whose parts have room in its 16 octets
pub record StaticFits (e : ℕ × StaticRow) : Type 0 where
  pub key : e.0 < 256 ^ 7
  pub status : e.1.status < 256 ^ 1
  pub allowed : e.1.allowed < 256 ^ 8

-- a pair row whose parts have room in its 4 octets
pub record PairFits (e : ℕ × PairRow) : Type 0 where
  pub key : e.0 < 256 ^ 2
  pub number : e.1.number < 256 ^ 1
  pub state : e.1.state < 256 ^ 1

-- a content whose numbers have room in the octets of its image
pub record Storable (c : Content) : Type 0 where
  pub shape : WellFormed c
  pub few_ports : c.ports ≤ 64
  pub edition_fits : c.edition < 256 ^ 1
  pub device_fits : c.device < 256 ^ 1
  pub address_size : length c.address ≡ 6
  pub deletes_fit : c.deletes < 256 ^ 4
  pub cells_fit : All (λ v. v < 256 ^ 4) c.cells
  pub vlans_fit : All VlanFits c.vlans
  pub statics_fit : All StaticFits c.statics
  pub pairs_fit : All PairFits c.pairs
