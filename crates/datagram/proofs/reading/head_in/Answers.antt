-- `datagram::reading::head_in` meets its contract. Assumes nothing.
use native.Mathlib.Omega.{arith}
use mathlib.Core.Path.{◌≡◌, refl, ap, ◌∙◌}
use borrow.Author.Tests.{le-leb, lt-leb}
use Rattle.octets.proofs.PartLaws.{part_length}
use Rattle.ber.proofs.BerLaws.{number-told}
use Rattle.octets.specs.Numbers.{be_at}
use Rattle.octets.specs.Parts.{part}
use Rattle.ber.specs.Ber.{five, four, integer32}
use lib.ListN.{length}
use Rattle.datagram.specs.Reading.{head_in, status_in, index_in, list_in}
use Rattle.datagram.proofs.ReadLaws.{status-told, four-of}
use Rattle.datagram.proofs.reading.head_in.Goals as goal

pub returns-then-id-gt4 : goal.returns-then-id-gt4
unfolding head_in status_in index_in list_in integer32
returns-then-id-gt4 c =
    rw (← c.in_ok-id.ensures, part_length c.args.e.octets.now c.in_ok-id.id.start c.in_ok-id.id.len (omega (arith, number-told _ _ _ c.in_ok-id.ensures refl)), lt-leb _ _ c.if-id-gt4.true)

pub overflow_add-id : goal.overflow_add-id
overflow_add-id c = omega (arith, number-told _ _ _ c.in_ok-id.ensures refl)

pub overflow_add-status : goal.overflow_add-status
overflow_add-status c = omega (arith, status-told _ _ _ _ c.in_ok-status.ensures refl)

pub overflow_add-index : goal.overflow_add-index
overflow_add-index c = omega (arith, status-told _ _ _ _ c.in_ok-index.ensures refl)

pub contents-requires : goal.contents-requires
contents-requires c = omega (arith, number-told _ _ _ c.in_ok-id.ensures refl)

pub five_of-requires : goal.five_of-requires
five_of-requires c = omega (arith, ap length c.contents.ensures ∙ part_length c.args.e.octets.now c.in_ok-id.id.start c.in_ok-id.id.len (omega (arith, number-told _ _ _ c.in_ok-id.ensures refl)))

pub overflow_add-result : goal.overflow_add-result
overflow_add-result c = omega (arith, status-told _ _ _ _ c.in_ok-status.ensures refl)

pub overflow_sub-result : goal.overflow_sub-result
overflow_sub-result c = omega (arith, status-told _ _ _ _ c.in_ok-status.ensures refl)

pub bounds-e-status : goal.bounds-e-status
bounds-e-status c = omega (arith, status-told _ _ _ _ c.in_ok-status.ensures refl)

pub overflow_add-result-2 : goal.overflow_add-result-2
overflow_add-result-2 c = omega (arith, status-told _ _ _ _ c.in_ok-index.ensures refl)

pub overflow_sub-result-2 : goal.overflow_sub-result-2
overflow_sub-result-2 c = omega (arith, status-told _ _ _ _ c.in_ok-index.ensures refl)

pub bounds-e-index : goal.bounds-e-index
bounds-e-index c = omega (arith, status-told _ _ _ _ c.in_ok-index.ensures refl)

pub returns : goal.returns
unfolding head_in status_in index_in list_in integer32
returns c =
    let xs = part c.args.e.octets.now c.in_ok-id.id.start c.in_ok-id.id.len in
    let e : c.id_of.result ≡ be_at (four xs) 0 4 = c.id_of.ensures ∙ four-of xs (c.five_of.ensures ∙ ap five c.contents.ensures) in
    rw (← c.in_ok-id.ensures, part_length c.args.e.octets.now c.in_ok-id.id.start c.in_ok-id.id.len (omega (arith, number-told _ _ _ c.in_ok-id.ensures refl)), le-leb _ _ c.if-id-gt4.false, ← c.in_ok-status.ensures, ← c.in_ok-index.ensures, ← c.in_ok-list.ensures, e)
