-- `datagram::placing::put_bound` meets its contract. Assumes nothing.
use native.Mathlib.Omega.{arith}
use mathlib.Core.Path.{sym, ap, ◌∙◌}
use Prim.Native.Nat.{ℕ, ◌*◌}
use mathlib.Core.List.{List}
use lib.ListN.{length, replicate}
use Rattle.octets.specs.Parts.{part, patch}
use lib.Seq.{length-take-le}
use Rattle.octets.proofs.PartLaws.{part_length}
use Rattle.names.specs.SubIds.{name_octets}
use Rattle.names.proofs.SubIdLaws.{length-name_octets}
use Rattle.message.specs.Answer.{bound, binding_octets}
use Rattle.ber.specs.Ber.{sub_ids, content_octets}
use Rattle.datagram.specs.Reading.{bound_at}
use Rattle.datagram.proofs.PlaceLaws.{name_below, bound-named}
use Rattle.datagram.proofs.placing.put_bound.Goals as goal

pub contents-name-requires : goal.contents-name-requires
contents-name-requires c = c.requires.1.named

pub put_name-requires : goal.put_name-requires
put_name-requires c =
    let w = c.requires.1 in
    let name : List ℕ = part c.args.s.now c.args.b.name c.args.b.size in
    rw c.contents-name.ensures (w.whole, (name_below name w.fits).0, omega (arith, (name_below name w.fits).1))

pub name_size-n-requires : goal.name_size-n-requires
name_size-n-requires c =
    let w = c.requires.1 in
    let name : List ℕ = part c.args.s.now c.args.b.name c.args.b.size in
    rw c.contents-name.ensures (omega (arith, w.named, part_length c.args.s.now c.args.b.name c.args.b.size w.named), w.whole, w.fits)

pub slice_bounds-ours-end : goal.slice_bounds-ours-end
slice_bounds-ours-end c =
    let w = c.requires.1 in
    let name : List ℕ = part c.args.s.now c.args.b.name c.args.b.size in
    let n = c.name_size-n.ensures ∙ ap (λ (u : List ℕ). 4 * length (sub_ids u)) c.contents-name.ensures in
    omega (arith, (name_below name w.fits).1)

pub slice_bounds-put_content-end : goal.slice_bounds-put_content-end
slice_bounds-put_content-end c =
    let w = c.requires.1 in
    let name : List ℕ = part c.args.s.now c.args.b.name c.args.b.size in
    let n = c.name_size-n.ensures ∙ ap (λ (u : List ℕ). 4 * length (sub_ids u)) c.contents-name.ensures in
    sym (length-take-le _ _ (omega (arith, (name_below name w.fits).1)))

pub contents-requires : goal.contents-requires
contents-requires c = c.requires.1.filled

pub put_content-requires : goal.put_content-requires
unfolding bound_at
put_content-requires c =
    let w = c.requires.1 in
    let name : List ℕ = part c.args.s.now c.args.b.name c.args.b.size in
    let n = c.name_size-n.ensures ∙ ap (λ (u : List ℕ). 4 * length (sub_ids u)) c.contents-name.ensures in
    let e = bound-named name (replicate 512 0) n (c.put_name.ensures ∙ ap (λ (u : List ℕ). patch (replicate 512 0) 0 (name_octets (sub_ids u))) c.contents-name.ensures) in
    rw c.contents.ensures (omega (arith, w.filled, part_length c.args.s.now c.args.b.content c.args.b.len w.filled), w.right, omega (arith, (name_below name w.fits).1, ap length e, length-name_octets (sub_ids name)), omega (arith, c.requires.2, ap length e))

pub returns : goal.returns
unfolding bound_at
returns c =
    let w = c.requires.1 in
    let name : List ℕ = part c.args.s.now c.args.b.name c.args.b.size in
    let n = c.name_size-n.ensures ∙ ap (λ (u : List ℕ). 4 * length (sub_ids u)) c.contents-name.ensures in
    let e = bound-named name (replicate 512 0) n (c.put_name.ensures ∙ ap (λ (u : List ℕ). patch (replicate 512 0) 0 (name_octets (sub_ids u))) c.contents-name.ensures) in
    c.put_content.ensures
    ∙ ap (λ (u : List ℕ). patch c.args.room.now c.args.to (binding_octets (bound u c.args.b.tag (content_octets c.args.b.tag c.contents.result.now)))) e
    ∙ ap (λ (u : List ℕ). patch c.args.room.now c.args.to (binding_octets (bound (name_octets (sub_ids name)) c.args.b.tag (content_octets c.args.b.tag u)))) c.contents.ensures
