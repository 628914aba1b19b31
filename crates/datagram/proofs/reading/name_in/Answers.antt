-- `datagram::reading::name_in` meets its contract. Assumes nothing.
use native.Mathlib.Omega.{arith}
use mathlib.Core.Path.{refl, sym, ap, ◌∙◌}
use lib.ListN.{length}
use Rattle.octets.proofs.PartLaws.{part_length}
use Rattle.ber.proofs.BerLaws.{part-told}
use Rattle.datagram.proofs.reading.name_in.Goals as goal

pub contents-octets-requires : goal.contents-octets-requires
contents-octets-requires c = omega (arith, part-told 0x06 _ _ _ c.in_ok-name.ensures refl)

pub name_fits-requires : goal.name_fits-requires
name_fits-requires c = (omega (arith, part-told 0x06 _ _ _ c.in_ok-name.ensures refl, ap length c.contents-octets.ensures ∙ part_length c.args.e.octets.now c.in_ok-name.name.start c.in_ok-name.name.len (omega (arith, part-told 0x06 _ _ _ c.in_ok-name.ensures refl))), sym c.is_name.ensures ∙ c.if-not-is_name.false)

pub content_in-requires : goal.content_in-requires
content_in-requires c = omega (arith, part-told 0x06 _ _ _ c.in_ok-name.ensures refl)
