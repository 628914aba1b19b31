-- `instances::exists` meets its contract: by the keys of the shape. Assumes nothing.
use mathlib.Core.Path.{◌≡◌, sym, ◌∙◌}
use native.Mathlib.Omega.{arith}
use Rattle.names.specs.Index.{up_from}
use Rattle.block.specs.Image.{content_of}
use Rattle.block.specs.Lookup.{keys_of}
use Rattle.block.specs.Tables.{rows_of}
use Rattle.block.proofs.RoundLaws.{legal-sized}
use Rattle.answer.specs.Values.{keys_in}
use Rattle.answer.proofs.StoredLaws.{elem-up}
use Rattle.instances.specs.Places.{keys_for}
use Rattle.instances.specs.declared.Keys.TheVariants.{Standing, Growing}
use Rattle.instances.proofs.SearchLaws.{legal-ports, keys-there, standing-few}
use Rattle.instances.proofs.exists.Goals as goal

pub ports-requires : goal.ports-requires
ports-requires c = (legal-sized _ c.requires).long

pub overflow_add-result : goal.overflow_add-result
overflow_add-result c =
    let x = c.in-Standing in
    let e : Standing x.first x.count ≡ keys_for c.args.shape (content_of c.args.block.now).ports = sym x.is ∙ rw (← c.ports.ensures) c.keys_for.ensures in
    omega (arith, standing-few c.args.shape _ x.first x.count (legal-ports _ c.requires).1 e)

pub returns-in-Standing : goal.returns-in-Standing
returns-in-Standing c =
    let x = c.in-Standing in
    let e : Standing x.first x.count ≡ keys_for c.args.shape (content_of c.args.block.now).ports = sym x.is ∙ rw (← c.ports.ensures) c.keys_for.ensures in
    let k : up_from x.first x.count ≡ keys_in (content_of c.args.block.now) c.args.shape = keys-there (content_of c.args.block.now) c.args.shape _ e in
    rw (← k) (sym (elem-up c.args.key x.first x.count))

pub returns-in-Growing : goal.returns-in-Growing
returns-in-Growing c =
    let x = c.in-Growing in
    let content = content_of c.args.block.now in
    let e : Growing x.t ≡ keys_for c.args.shape content.ports = sym x.is ∙ rw (← c.ports.ensures) c.keys_for.ensures in
    let k : keys_of (rows_of x.t content) ≡ keys_in content c.args.shape = keys-there content c.args.shape _ e in
    rw (← k) c.has_row.ensures
