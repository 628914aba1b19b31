-- `set::vlan_with` meets its contract, column by column. Assumes nothing.
use mathlib.Core.Path.{◌≡◌}
use native.Mathlib.Omega.{arith}
use lib.Dec.{leb}
use borrow.Author.Tests.{leb-true, le-leb, lt-leb}
use Rattle.octets.specs.Parts.{part}
use Rattle.octets.proofs.BoolLaws.{both}
use Rattle.octets.proofs.PartLaws.{part_length}
use Rattle.names.specs.Places.{vlan_name, vlan_row_status}
use Rattle.verdict.proofs.columns.ColumnLaws.{vlan-stated}
use Rattle.set.proofs.vlan_with.Goals as goal

pub name_octets-row-requires : goal.name_octets-row-requires
name_octets-row-requires c =
    let p = c.requires in
    (p.2, p.3 c.in-32.is)

pub returns-in-32 : goal.returns-in-32
returns-in-32 c m =
    let a = c in
    let q = a.args.q in
    rw (c.in-32.is, part_length a.args.request.now q.at q.len a.requires.2, c.name_octets-row.ensures)

pub returns-in-33 : goal.returns-in-33
returns-in-33 c m = rw c.in-33.is

pub returns-in-34 : goal.returns-in-34
returns-in-34 c m = rw c.in-34.is

pub returns-in-35 : goal.returns-in-35
returns-in-35 c m = rw c.in-35.is

pub returns-then-q-le2 : goal.returns-then-q-le2
returns-then-q-le2 c m =
    let a = c in
    let q = a.args.q in
    let t = both (leb vlan_name q.place) (leb q.place vlan_row_status) a.requires.0 in
    let e : q.place ≡ vlan_row_status = omega (arith, leb-true vlan_name q.place t.0, leb-true q.place vlan_row_status t.1) in
    rw (e, vlan-stated m q.key q.value (part a.args.request.now q.at q.len) a.args.row (a.requires.1 e), le-leb q.value 2 (omega arith))

pub returns-else-q-le2 : goal.returns-else-q-le2
returns-else-q-le2 c m =
    let a = c in
    let q = a.args.q in
    let t = both (leb vlan_name q.place) (leb q.place vlan_row_status) a.requires.0 in
    let e : q.place ≡ vlan_row_status = omega (arith, leb-true vlan_name q.place t.0, leb-true q.place vlan_row_status t.1) in
    rw (e, vlan-stated m q.key q.value (part a.args.request.now q.at q.len) a.args.row (a.requires.1 e), lt-leb q.value 2 (omega arith))
