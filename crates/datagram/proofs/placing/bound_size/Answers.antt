-- `datagram::placing::bound_size` meets its contract. Assumes nothing.
use native.Mathlib.Omega.{arith}
use mathlib.Core.Path.{ap, ◌∙◌}
use Prim.Native.Nat.{ℕ, ◌*◌}
use mathlib.Core.List.{List}
use lib.ListN.{length}
use Rattle.octets.specs.Parts.{part}
use Rattle.octets.proofs.PartLaws.{part_length}
use Rattle.ber.specs.Ber.{sub_ids}
use Rattle.datagram.proofs.PlaceLaws.{as_it_is, name_below, bound-measured, size-most}
use Rattle.datagram.proofs.placing.bound_size.Goals as goal

pub contents-requires : goal.contents-requires
contents-requires c = c.requires.1.named

pub name_size-requires : goal.name_size-requires
name_size-requires c =
    let w = c.requires.1 in
    rw c.contents.ensures (omega (arith, w.named, part_length c.args.s.now c.args.b.name c.args.b.size w.named), w.whole, w.fits)

pub binding_size-requires : goal.binding_size-requires
binding_size-requires c =
    let w = c.requires.1 in
    let e = c.name_size.ensures ∙ ap (λ (u : List ℕ). 4 * length (sub_ids u)) c.contents.ensures in
    omega (arith, w.filled, name_below (part c.args.s.now c.args.b.name c.args.b.size) w.fits, c.content_size.ensures, size-most (as_it_is c.args.b.tag c.args.b.len) c.args.b.len)

pub returns : goal.returns
returns c = c.binding_size.ensures ∙ bound-measured _ _ c.requires.1 (c.name_size.ensures ∙ ap (λ (u : List ℕ). 4 * length (sub_ids u)) c.contents.ensures) c.content_size.ensures
