-- `instances::first_above` meets its contract: by the keys of the shape; of a table, the first key above is the first that is at least the least key above. Assumes nothing.
use mathlib.Core.Path.{◌≡◌, sym, subst, ◌∙◌}
use native.Mathlib.Omega.{arith}
use Rattle.names.specs.SubIds.{subids}
use Rattle.names.specs.Index.{up_from, bases, least, first_above, first_from}
use Rattle.names.specs.declared.Shape.{Shape}
use Rattle.block.specs.Image.{content_of}
use Rattle.block.specs.Lookup.{keys_of}
use Rattle.block.specs.Tables.{rows_of}
use Rattle.block.proofs.RoundLaws.{legal-sized}
use Rattle.answer.specs.Values.{keys_in}
use Rattle.instances.specs.Places.{keys_for}
use Rattle.instances.specs.declared.Keys.TheVariants.{Standing, Growing}
use Rattle.instances.proofs.SearchLaws.{legal-ports, limit-room, rows-ascend, first-row-from, keys-there, standing-few, growing-shape}
use Rattle.instances.proofs.first_above.Goals as goal

pub ports-requires : goal.ports-requires
ports-requires c = (legal-sized _ c.requires).long

pub next_in_row-requires : goal.next_in_row-requires
next_in_row-requires c =
    let x = c.in-Standing in
    let e : Standing x.first x.count ≡ keys_for c.args.shape (content_of c.args.block.now).ports = sym x.is ∙ rw (← c.ports.ensures) c.keys_for.ensures in
    omega (arith, limit-room c.args.shape, standing-few c.args.shape _ x.first x.count (legal-ports _ c.requires).1 e)

pub first_key_from-requires : goal.first_key_from-requires
first_key_from-requires c = (legal-sized _ c.requires, rows-ascend _ c.requires c.in-Growing.t)

pub returns-in-Standing : goal.returns-in-Standing
returns-in-Standing c =
    let x = c.in-Standing in
    let e : Standing x.first x.count ≡ keys_for c.args.shape (content_of c.args.block.now).ports = sym x.is ∙ rw (← c.ports.ensures) c.keys_for.ensures in
    let k : up_from x.first x.count ≡ keys_in (content_of c.args.block.now) c.args.shape = keys-there (content_of c.args.block.now) c.args.shape _ e in
    rw (← k) c.next_in_row.ensures

pub returns-in-Growing : goal.returns-in-Growing
returns-in-Growing c =
    let x = c.in-Growing in
    let content = content_of c.args.block.now in
    let rest = subids c.args.rest.now in
    let e : Growing x.t ≡ keys_for c.args.shape content.ports = sym x.is ∙ rw (← c.ports.ensures) c.keys_for.ensures in
    let ks = keys_of (rows_of x.t content) in
    let k : ks ≡ keys_in content c.args.shape = keys-there content c.args.shape _ e in
    let f : first_above rest c.args.shape ks ≡ first_from (least (bases c.args.shape) rest) ks =
    subst (λ (s : Shape). first_above rest s ks ≡ first_from (least (bases s) rest) ks) (growing-shape c.args.shape _ x.t e) (first-row-from c.args.block.now c.requires x.t rest) in
    rw (← k, f, ← c.least_above.ensures) c.first_key_from.ensures
