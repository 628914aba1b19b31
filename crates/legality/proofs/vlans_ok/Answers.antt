use mathlib.Core.Path.{◌≡◌, refl, ◌∙◌}
use mathlib.Core.Bool.{Bool, ◌&&◌}
use Prim.Native.Nat.{◌+◌, ◌<◌, ◌^◌}
use native.Mathlib.Omega.{arith}
use lib.Dec.{leb}
use lib.ListN.{drop, drop_of_length-le}
use Rattle.octets.specs.Numbers.{be_at}
use Rattle.names.specs.declared.Shape.TheVariants.{Vlan}
use Rattle.names.proofs.IndexLaws.{can-vlan}
use Rattle.block.specs.Image.{content_of}
use Rattle.block.specs.Valid.{rows_ok, vlan_ok}
use Rattle.block.specs.Tests.{vlans_ok}
use Rattle.block.specs.Lookup.{active_vlans, no_vlan}
use Rattle.block.specs.declared.tables.Table.TheVariants.{Vlan as vlan}
use Rattle.block.proofs.TotalLaws.{one_at_most}
use Rattle.block.proofs.ReadLaws.{row_is, active-turn, many-in}
use Rattle.block.proofs.StandingLaws.{key-at, key-small}
use Rattle.legality.proofs.LegalLaws.{rows-turn, rows_end}
use Rattle.legality.proofs.vlans_ok.Goals as goal
use Rattle.legality.proofs.vlans_ok.Lts as lts
use Rattle.legality.proofs.vlans_ok.Reads as reads
use Rattle.legality.proofs.vlans_ok.Tie as tie

pub loop-i-init : goal.loop-i-init
loop-i-init c = (omega arith, omega arith, refl)

-- the key has two octets
small : (c : lts.After-row_key tie.the-claims reads.Pre reads.Post goal.the-invariant-loop-i goal.the-decreases-loop-i) → c.row_key-key.result < 256 ^ 2
small c =
    let d = c.before.before.before.before in
    let b = d.args.block.now in
    rw c.row_key-key.ensures (key-small b vlan c.loop-i.i (λ j. omega (arith, d.shared_slice_known-1.given j)) (omega arith))

pub overflow_mul-i : goal.overflow_mul-i
overflow_mul-i c = omega (arith, many-in c.args.block.now vlan)

pub overflow_add-i : goal.overflow_add-i
overflow_add-i c = omega (arith, many-in c.args.block.now vlan)

pub vlan_ok-requires : goal.vlan_ok-requires
vlan_ok-requires c = omega (arith, many-in c.args.block.now vlan)

-- whether the row is as it must be
abbrev fits : lts.After-vlan_ok tie.the-claims reads.Pre reads.Post goal.the-invariant-loop-i goal.the-decreases-loop-i → Bool
fits c = let k = c.row_key-key.result in (leb c.loop-i.low k && (leb 1 k && leb k 4094)) && c.vlan_ok.result

-- what a turn makes of the answer
turn : (c : lts.After-vlan_ok tie.the-claims reads.Pre reads.Post goal.the-invariant-loop-i goal.the-decreases-loop-i) →
    let a = c.args in
    let es = (content_of a.block.now).vlans in
    rows_ok a.m Vlan (vlan_ok a.m) 0 es ≡ (fits c && rows_ok a.m Vlan (vlan_ok a.m) (c.row_key-key.result + 1) (drop (c.loop-i.i + 1) es))
turn c =
    let a = c.args in
    let l = c.loop-i in
    let es = (content_of a.block.now).vlans in
    l.invariant.2
    ∙ rw (
      rows-turn a.m Vlan (vlan_ok a.m) l.low es l.i no_vlan (omega arith),
      ← key-at es l.i no_vlan.1,
      ← c.row_key-key.ensures,
      can-vlan,
      row_is a.block.now vlan l.i no_vlan (omega (arith, many-in a.block.now vlan)),
      ← c.vlan_ok.ensures,
    )

pub returns-then-not-fits : goal.returns-then-not-fits
unfolding vlans_ok
returns-then-not-fits c = rw (turn c.before.before, c.if-not-fits.true)

pub vlan_status-requires : goal.vlan_status-requires
vlan_status-requires c = omega (arith, many-in c.args.block.now vlan)

pub overflow_add-active : goal.overflow_add-active
overflow_add-active c = omega (arith, one_at_most c.vlan_status.result, many-in c.args.block.now vlan)

pub overflow_add-low : goal.overflow_add-low
overflow_add-low c = omega (arith, small c.before.before.before.before.before)

pub loop-i-preserved : goal.loop-i-preserved
loop-i-preserved c =
    let l = c.loop-i in
    let b = c.args.block.now in
    let i : l.i < be_at b 8 4 = omega (arith, many-in b vlan) in (
      omega (arith, one_at_most c.vlan_status.result),
      l.invariant.1 ∙ rw (active-turn b l.i i, ← c.vlan_status.ensures, ← c.one_if_active-active.ensures) (omega arith),
      turn c.before.before.before.before ∙ rw c.if-not-fits.false,
    )

pub returns : goal.returns
unfolding vlans_ok active_vlans
returns c =
    let a = c.args in
    let l = c.loop-i in
    let vs = (content_of a.block.now).vlans in
    let all : active_vlans vs ≡ l.active = l.invariant.1 ∙ rw (drop_of_length-le vs {i = l.i} (omega arith)) (omega arith) in
    rw (l.invariant.2, rows_end a.m Vlan (vlan_ok a.m) l.low vs l.i (omega arith), all, c.be.ensures.0)
