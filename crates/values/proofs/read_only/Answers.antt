-- `values::read_only` meets its contract. Assumes nothing.
use mathlib.Core.Path.{◌≡◌, sym, ◌∙◌}
use mathlib.Core.Bool.{false}
use native.Mathlib.Omega.{arith}
use borrow.Author.Tests.{ne_eqb}
use Rattle.names.specs.Places.{bridge_address, num_ports, bridge_type, num_vlans, vlan_num_deletes}
use Rattle.block.specs.Image.{content_of}
use Rattle.block.proofs.RoundLaws.{legal-sized}
use Rattle.answer.specs.Values.{values}
use Rattle.answer.specs.Get.{elem}
use Rattle.values.proofs.ValueLaws.{in_block, value-only, value-port}
use Rattle.values.proofs.KeyLaws.{present-in, fixed-key}
use Prim.Native.Nat.{ℕ}
use Rattle.values.proofs.read_only.Goals as goal

-- an object that is none of those that are read from the block
others : (i : ℕ) → (i ≡ bridge_address → ⊥) → (i ≡ num_ports → ⊥) → (i ≡ bridge_type → ⊥) → (i ≡ num_vlans → ⊥) → (i ≡ vlan_num_deletes → ⊥) → elem i in_block ≡ false
unfolding elem
others i a p t v d = rw (ne_eqb i bridge_address a, ne_eqb i num_ports p, ne_eqb i bridge_type t, ne_eqb i num_vlans v, ne_eqb i vlan_num_deletes d)

pub address-requires : goal.address-requires
address-requires c = (legal-sized _ c.requires.0).long

pub ports-requires : goal.ports-requires
ports-requires c = (legal-sized _ c.requires.0).long

pub bridge_type-requires : goal.bridge_type-requires
bridge_type-requires c = (legal-sized _ c.requires.0).long

pub active_vlans-requires : goal.active_vlans-requires
active_vlans-requires c = c.requires.0

pub deletes-requires : goal.deletes-requires
deletes-requires c = (legal-sized _ c.requires.0).long

pub returns-then-low-high : goal.returns-then-low-high
returns-then-low-high c =
    let o = c.object-o.ensures in
    let content = content_of c.args.block.now in
    let only = rw o at c.if-low-high.true in
    c.number-then-low-high.ensures
    ∙ rw (c.tag_of.ensures, o)
    (sym (value-only content c.args.x.key c.args.x.place c.requires.1.0 c.requires.2 c.requires.3 (others c.args.x.place (λ e. omega arith) (λ e. omega arith) (λ e. omega arith) (λ e. omega arith) (λ e. omega arith)) only))

pub overflow_cast-x : goal.overflow_cast-x
overflow_cast-x c =
    omega (arith, fixed-key (present-in c.args.block.now c.args.x.place c.args.x.key c.requires.0 c.requires.1.0 c.requires.1.1) c.requires.3)

pub returns-in-0 : goal.returns-in-0
unfolding values
returns-in-0 c =
    let e : c.args.x.place ≡ bridge_address = omega arith in
    c.copied.ensures ∙ rw (e, c.address.ensures)

pub returns-in-1 : goal.returns-in-1
unfolding values
returns-in-1 c =
    let e : c.args.x.place ≡ num_ports = omega arith in
    c.number.ensures ∙ rw (e, c.ports.ensures)

pub returns-in-2 : goal.returns-in-2
unfolding values
returns-in-2 c =
    let e : c.args.x.place ≡ bridge_type = omega arith in
    c.number-in-2.ensures ∙ rw (e, c.bridge_type.ensures)

pub returns-in-30 : goal.returns-in-30
unfolding values
returns-in-30 c =
    let e : c.args.x.place ≡ num_vlans = omega arith in
    c.number-in-30.ensures ∙ rw (e, c.active_vlans.ensures)

pub returns-in-31 : goal.returns-in-31
unfolding values
returns-in-31 c =
    let e : c.args.x.place ≡ vlan_num_deletes = omega arith in
    c.number-in-31.ensures ∙ rw (e, c.deletes.ensures)

pub returns-else-low-high : goal.returns-else-low-high
returns-else-low-high c =
    let content = content_of c.args.block.now in
    let more = rw c.object-o.ensures at c.if-low-high.false in
    c.number-in_default.ensures ∙ sym (value-port content c.args.x.key c.args.x.place c.requires.1.0 c.requires.2 c.requires.3 (others c.args.x.place (λ e. omega arith) (λ e. omega arith) (λ e. omega arith) (λ e. omega arith) (λ e. omega arith)) more)
