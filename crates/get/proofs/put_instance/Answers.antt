-- `get::put_instance` meets its contract: the name of an instance is put at the start of 80 octets, and read back from them. Assumes nothing.
use mathlib.Core.Path.{◌≡◌, sym}
use Prim.Native.Nat.{◌≤◌}
use native.Mathlib.Omega.{arith}
use lib.ListN.{take}
use lib.Seq.{length-take-le}
use borrow.Author.Tests.{eq-eqb, ne_eqb}
use Rattle.names.specs.SubIds.{name_octets}
use Rattle.names.specs.Table.{object_at}
use Rattle.names.specs.Instances.{instance_name, name_size}
use Rattle.names.proofs.TableLaws.{short-at}
use Rattle.get.proofs.ReplyLaws.{instance-short, name_back}
use Rattle.get.proofs.put_instance.Goals as goal

pub put_bound-requires : goal.put_bound-requires
put_bound-requires c = (c.requires.0, rw c.octets.ensures c.requires.3, rw (c.octets.ensures, c.tag.ensures) (rw (eq-eqb _ 0 c.if-kind-eq-GET.true) at c.requires.4))

pub returns-then-kind-eq-GET : goal.returns-then-kind-eq-GET
returns-then-kind-eq-GET c = rw (eq-eqb _ 0 c.if-kind-eq-GET.true, ← c.octets.ensures, ← c.tag.ensures) c.put_bound.ensures

pub put_name-requires : goal.put_name-requires
put_name-requires c = rw c.object-o.ensures (short-at _, omega (arith, instance-short c.args.x.place), c.requires.2)

pub name_size-requires : goal.name_size-requires
name_size-requires c = rw c.object-o.ensures (short-at _)

pub slice_bounds-instance-end : goal.slice_bounds-instance-end
slice_bounds-instance-end c =
    let long : c.name_size.result ≡ name_size (object_at c.args.x.place) = rw c.object-o.ensures at c.name_size.ensures in
    omega (arith, instance-short c.args.x.place)

pub slice_bounds-put_bound-end : goal.slice_bounds-put_bound-end
slice_bounds-put_bound-end c =
    let long : c.name_size.result ≡ name_size (object_at c.args.x.place) = rw c.object-o.ensures at c.name_size.ensures in
    sym (length-take-le _ _ (omega (arith, instance-short c.args.x.place)))

pub put_bound-requires-2 : goal.put_bound-requires-2
put_bound-requires-2 c =
    let a = c.args in
    let long : c.name_size.result ≡ name_size (object_at a.x.place) = rw c.object-o.ensures at c.name_size.ensures in
    let short : c.name_size.result ≤ 80 = omega (arith, instance-short a.x.place) in
    let n = length-take-le c.name_size.result c.put_name.new.s (omega arith) in
    let name : take c.name_size.result c.put_name.new.s ≡ name_octets (instance_name (object_at a.x.place) a.x.key) = rw (c.put_name.ensures, c.object-o.ensures) (name_back _ a.x.place a.x.key _ long) in
    (omega arith, rw c.octets-2.ensures c.requires.3, rw (name, c.octets-2.ensures, c.tag-2.ensures) (rw (ne_eqb _ 0 c.if-kind-eq-GET.false) at c.requires.4))

pub returns : goal.returns
returns c =
    let a = c.args in
    let long : c.name_size.result ≡ name_size (object_at a.x.place) = rw c.object-o.ensures at c.name_size.ensures in
    let name : take c.name_size.result c.put_name.new.s ≡ name_octets (instance_name (object_at a.x.place) a.x.key) = rw (c.put_name.ensures, c.object-o.ensures) (name_back _ a.x.place a.x.key _ long) in
    rw (ne_eqb _ 0 c.if-kind-eq-GET.false, ← name, ← c.octets-2.ensures, ← c.tag-2.ensures) c.put_bound-2.ensures
