-- `instances::next_place` meets its contract: by how the name stands to the root. Assumes nothing.
use mathlib.Core.Path.{sym, ap, ◌∙◌}
use mathlib.Core.List.{◌++◌}
use Prim.Native.Nat.{◌≤◌}
use native.Mathlib.Omega.{arith}
use lib.ListN.{length}
use Rattle.names.specs.SubIds.{subids}
use Rattle.names.specs.Table.{root}
use Rattle.names.specs.Instances.{next_place}
use Rattle.names.proofs.SideLaws.{under-fits}
use Rattle.names.proofs.NextLaws.{root_below, root-under, root-above}
use Rattle.block.specs.Image.{content_of}
use Rattle.answer.specs.Values.{keys_on}
use Rattle.instances.specs.Places.{next_of}
use Rattle.instances.proofs.SearchLaws.{rest-none, rest-past}
use Rattle.instances.proofs.next_place.Goals as goal

-- a name under the root has its sub-ids
fits : (c : goal.In-Prefix) → 28 ≤ length c.args.name.now
fits c =
    under-fits c.args.name.now root 7 (omega arith)
    (sym c.root_side.ensures ∙ c.in-Prefix.is)

pub slice_bounds-next_under_root-count-in-Prefix : goal.slice_bounds-next_under_root-count-in-Prefix
slice_bounds-next_under_root-count-in-Prefix c = fits c

pub slice_bounds-next_under_root-start-in-Prefix : goal.slice_bounds-next_under_root-start-in-Prefix
slice_bounds-next_under_root-start-in-Prefix c = fits c

pub returns-in-Below : goal.returns-in-Below
returns-in-Below c =
    let a = c.args in
    let s = a.name.now in
    let keys = keys_on (content_of a.block.now) in
    let side = sym c.root_side.ensures ∙ c.in-Below.is in
    c.next_under_root.ensures
    ∙ ap (λ r. next_of (next_place keys (root ++ r))) (rest-none s)
    ∙ sym (ap next_of (root_below keys (subids s) side))

pub returns-in-Prefix : goal.returns-in-Prefix
returns-in-Prefix c =
    let a = c.args in
    let s = a.name.now in
    let keys = keys_on (content_of a.block.now) in
    let side = sym c.root_side.ensures ∙ c.in-Prefix.is in
    c.next_under_root-in-Prefix.ensures
    ∙ ap (λ r. next_of (next_place keys (root ++ r))) (rest-past s 7)
    ∙ sym (ap next_of (root-under keys (subids s) side))

pub returns-in-Above : goal.returns-in-Above
returns-in-Above c =
    let a = c.args in
    sym (ap next_of (root-above (keys_on (content_of a.block.now)) (subids a.name.now)
    (sym c.root_side.ensures ∙ c.in-Above.is)))
