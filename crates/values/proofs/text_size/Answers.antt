-- `values::text_size` meets its contract: the name of a row that is there is as long as the row says. Assumes nothing.
use mathlib.Core.Path.{◌≡◌, sym}
use mathlib.Core.Bool.{true}
use native.Mathlib.Omega.{arith}
use Rattle.names.specs.Places.{vlan_name}
use Rattle.names.specs.Table.{objects, object_at}
use Rattle.block.specs.Image.{content_of}
use Rattle.block.specs.Lookup.{keys_of, no_vlan}
use Rattle.block.proofs.RoundLaws.{legal-valid, legal-sized}
use Rattle.block.proofs.ValidParts.{valid-parts}
use Rattle.answer.specs.Values.{values, keys_on}
use Rattle.block.specs.Content.{Content}
use Prim.Native.Nat.{ℕ}
use Rattle.answer.specs.Get.{elem}
use Rattle.values.proofs.HeldLaws.{name-length}
use Rattle.values.proofs.ValueLaws.{address-size}
use Rattle.values.proofs.KeyLaws.{on-elem, row-place, row-found, name-found}
use Rattle.values.proofs.text_size.Goals as goal

-- the key is that of a VLAN row
keyed : (content : Content) (i k : ℕ) → i ≡ vlan_name → elem k (keys_on content (object_at i)) ≡ true → elem k (keys_of content.vlans) ≡ true
unfolding objects
keyed content i k e h = (on-elem content (object_at vlan_name) k (rw e at h)).1

pub returns-then-x-ne-VLAN_NAME : goal.returns-then-x-ne-VLAN_NAME
returns-then-x-ne-VLAN_NAME c =
    let content = content_of c.args.block.now in
    let six = (valid-parts content (legal-valid _ c.requires.0).0).address_size in
    sym (address-size content c.args.x.key c.args.x.place c.requires.1.0 six c.requires.2 c.if-x-ne-VLAN_NAME.true)

pub row_place-requires : goal.row_place-requires
row_place-requires c = (c.requires.0, keyed (content_of c.args.block.now) c.args.x.place c.args.x.key (omega arith) c.requires.1.1)

pub vlan-row-requires : goal.vlan-row-requires
vlan-row-requires c =
    let b = c.args.block.now in
    (legal-sized b c.requires.0, row-place c.args.x.key (content_of b).vlans _ c.row_place.ensures)

pub returns : goal.returns
unfolding values
returns c =
    let content = content_of c.args.block.now in
    let e : c.args.x.place ≡ vlan_name = omega arith in
    let row = row-found c.args.x.key content.vlans _ c.row_place.ensures no_vlan in
    rw (c.vlan-row.ensures, e, row) (sym (name-length _ _ (name-found content c.args.x.key _ (legal-valid _ c.requires.0).0 c.row_place.ensures)))
