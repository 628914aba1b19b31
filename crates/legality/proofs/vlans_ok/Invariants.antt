-- `legality::vlans_ok` meets its contract. The invariant: the answer is that of the rows left, from low on, and the active rows are those counted and those left. Assumes nothing.
use mathlib.Core.Path.{◌≡◌}
use Prim.Native.Nat.{◌+◌, ◌≤◌}
use lib.ListN.{drop}
use Rattle.names.specs.declared.Shape.TheVariants.{Vlan}
use Rattle.block.specs.Image.{content_of}
use Rattle.block.specs.Valid.{rows_ok, vlan_ok}
use Rattle.block.specs.Lookup.{active_vlans}
use Rattle.legality.proofs.vlans_ok.Given as goal

abbrev pub invariant-loop-i : goal.invariant-loop-i
invariant-loop-i l =
    (l.active ≤ l.i)
    × (active_vlans (content_of l.block).vlans ≡ l.active + active_vlans (drop l.i (content_of l.block).vlans))
    × (rows_ok l.m Vlan (vlan_ok l.m) 0 (content_of l.block).vlans ≡ rows_ok l.m Vlan (vlan_ok l.m) l.low (drop l.i (content_of l.block).vlans))
