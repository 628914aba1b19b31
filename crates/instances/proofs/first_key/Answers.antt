-- `instances::first_key` meets its contract: by whether the device has the object type, and how the rest stands to it. Assumes nothing.
use mathlib.Core.Path.{◌≡◌, sym, ap, ◌∙◌}
use mathlib.Core.Bool.{true}
use Prim.Native.Nat.{◌*◌, ◌≤◌}
use lib.ListN.{length}
use Rattle.names.specs.Devices.{has}
use Rattle.names.specs.SubIds.{subids}
use Rattle.names.specs.Index.{first_above, answered}
use Rattle.names.specs.Instances.{first_key}
use Rattle.names.specs.declared.model.Model.{Model}
use Rattle.names.proofs.SideLaws.{under-fits}
use Rattle.names.proofs.NextLaws.{key_below, key-under, key_above}
use Rattle.block.specs.Image.{content_of}
use Rattle.block.proofs.RoundLaws.{legal-sized}
use Rattle.answer.specs.Values.{keys_in}
use Rattle.instances.proofs.SearchLaws.{rest-none, rest-past}
use mathlib.Core.List.{List}
use Prim.Native.Nat.{ℕ}
use Rattle.names.specs.Order.{side_of}
use Rattle.names.specs.Table.{prefix_of}
use Rattle.names.specs.declared.order.Side.TheVariants.{Prefix}
use Rattle.names.specs.declared.table.ObjectType.{ObjectType}
use Rattle.instances.proofs.first_key.Goals as goal

pub model-m-requires : goal.model-m-requires
model-m-requires c = (legal-sized _ c.requires.0).long

pub returns-then-not-has_object : goal.returns-then-not-has_object
unfolding first_key
returns-then-not-has_object c =
    let o = c.args.o in
    -- the test is whether the block's device has the object type
    rw (sym (c.has_object.ensures ∙ ap (λ (m : Model). has m.device o) c.model-m.ensures) ∙ c.if-not-has_object.true)

-- a rest under the object type has its sub-ids
fits : (s : List ℕ) (o : ObjectType) → o.len ≤ length o.prefix → Prefix ≡ side_of (subids s) (prefix_of o) → 4 * o.len ≤ length s
fits s o h e = under-fits s o.prefix o.len h (sym e)

pub slice_bounds-first_above-count-in-Prefix : goal.slice_bounds-first_above-count-in-Prefix
slice_bounds-first_above-count-in-Prefix c = fits _ c.args.o c.requires.2 (sym c.in-Prefix.is ∙ c.type_side.ensures)

pub slice_bounds-first_above-start-in-Prefix : goal.slice_bounds-first_above-start-in-Prefix
slice_bounds-first_above-start-in-Prefix c = fits _ c.args.o c.requires.2 (sym c.in-Prefix.is ∙ c.type_side.ensures)

pub returns-in-Below : goal.returns-in-Below
returns-in-Below c =
    let s = c.args.rest.now in
    let o = c.args.o in
    let ks = keys_in (content_of c.args.block.now) o.shape in
    let side = sym c.type_side.ensures ∙ c.in-Below.is in
    let own : has (content_of c.args.block.now).device c.args.o ≡ true =
    sym (c.has_object.ensures ∙ ap (λ (m : Model). has m.device c.args.o) c.model-m.ensures) ∙ c.if-not-has_object.false in
    rw own
    (c.first_above.ensures ∙ ap (λ l. answered (first_above l o.shape ks)) (rest-none s) ∙ sym (ap answered (key_below (subids s) o ks side)))

pub returns-in-Prefix : goal.returns-in-Prefix
returns-in-Prefix c =
    let s = c.args.rest.now in
    let o = c.args.o in
    let ks = keys_in (content_of c.args.block.now) o.shape in
    let side = sym c.type_side.ensures ∙ c.in-Prefix.is in
    let own : has (content_of c.args.block.now).device c.args.o ≡ true =
    sym (c.has_object.ensures ∙ ap (λ (m : Model). has m.device c.args.o) c.model-m.ensures) ∙ c.if-not-has_object.false in
    rw own
    (c.first_above-in-Prefix.ensures ∙ ap (λ l. answered (first_above l o.shape ks)) (rest-past s o.len)
    ∙ sym (ap answered (key-under (subids s) o ks c.requires.2 side)))

pub returns-in-Above : goal.returns-in-Above
returns-in-Above c =
    let a = c.args in
    let own : has (content_of c.args.block.now).device c.args.o ≡ true =
    sym (c.has_object.ensures ∙ ap (λ (m : Model). has m.device c.args.o) c.model-m.ensures) ∙ c.if-not-has_object.false in
    rw own
    (sym (ap answered (key_above (subids a.rest.now) a.o (keys_in (content_of a.block.now) a.o.shape)
    (sym c.type_side.ensures ∙ c.in-Above.is))))
