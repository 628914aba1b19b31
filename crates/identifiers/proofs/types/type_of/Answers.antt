-- `identifiers::types::type_of` meets its contract: by how the name stands to the root. Assumes nothing.
use mathlib.Core.Path.{◌≡◌, sym, ap, ◌∙◌}
use mathlib.Core.Logic.{⊎_elim}
use Prim.Native.Nat.{◌≤◌}
use native.Mathlib.Omega.{arith}
use lib.ListN.{length}
use Rattle.names.specs.SubIds.{subids}
use Rattle.names.specs.Index.{answered}
use Rattle.names.specs.Table.{root, objects, place_under}
use Rattle.names.specs.declared.order.Side.{Side}
use Rattle.names.specs.declared.order.Side.TheVariants.{Below, Above}
use Rattle.names.proofs.SubIdLaws.{subids-drop}
use Rattle.names.proofs.SideLaws.{is_under, side-prefix, under-fits, rest-is}
use Rattle.names.proofs.TableLaws.{place_out, place-under}
use Rattle.identifiers.proofs.types.type_of.Goals as goal

fits : (c : goal.In-Prefix) → 28 ≤ length c.args.name.now
fits c =
    under-fits c.args.name.now root 7 (omega arith)
    (sym c.root_side.ensures ∙ c.in-Prefix.is)

pub slice_bounds-search-count : goal.slice_bounds-search-count
slice_bounds-search-count c = fits c

pub slice_bounds-search-start : goal.slice_bounds-search-start
slice_bounds-search-start c = fits c

pub returns-in-Below : goal.returns-in-Below
returns-in-Below c =
    let s = subids c.args.name.now in
    let out = λ (t : Side) (q : c.root_side.result ≡ t). ap is_under (sym c.root_side.ensures ∙ q) in
    sym (ap answered (place_out s (side-prefix s root ∙ ⊎_elim (out Below) (out Above) c.in-Below.is)))

pub returns-in-Prefix : goal.returns-in-Prefix
returns-in-Prefix c =
    let s = c.args.name.now in
    let e = place-under (subids s) (side-prefix (subids s) root ∙ ap is_under (sym c.root_side.ensures ∙ c.in-Prefix.is)) in
    c.ok.ensures.value ∙ c.search.ensures.found ∙ ap answered (ap (place_under 0 objects) (ap subids (rest-is s 28) ∙ subids-drop 7 s) ∙ sym e)
