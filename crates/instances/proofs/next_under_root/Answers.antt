use mathlib.Core.Path.{sym, ap, ◌∙◌}
use mathlib.Core.List.{◌++◌}
use native.Mathlib.Omega.{arith}
use Rattle.names.specs.SubIds.{subids}
use Rattle.names.specs.Index.{answered}
use Rattle.names.specs.Table.{root}
use Rattle.names.specs.Instances.{first_key}
use Rattle.names.proofs.TableLaws.{short-at, sized-at}
use Rattle.names.proofs.NextLaws.{walk_start, walk-found, walk-on, walk_end}
use Rattle.block.specs.Image.{content_of}
use Rattle.answer.specs.Values.{keys_on}
use Rattle.instances.specs.Places.{next_of}
use Rattle.instances.proofs.next_under_root.Goals as goal

pub loop-i-init : goal.loop-i-init
loop-i-init c = rw c.first_place-i.ensures (walk_start _ _)

pub first_key-requires : goal.first_key-requires
first_key-requires c =
    let i = c.loop-i.i in
    (c.requires, rw c.object.ensures (short-at i), rw c.object.ensures (omega (arith, short-at i, sized-at i)))

pub returns-in-Some : goal.returns-in-Some
returns-in-Some c =
    let a = c.args in
    let l = c.loop-i in
    -- the first key of the object type at the loop's place
    let k = c.first_key.ensures ∙ ap (λ o. answered (first_key (root ++ subids a.rest.now) o (keys_on (content_of a.block.now) o))) c.object.ensures in
    sym (ap next_of (l.invariant
    ∙ walk-found (keys_on (content_of a.block.now)) (root ++ subids a.rest.now) l.i _ (omega arith)
    (sym c.in-Some.is ∙ k)))

pub loop-i-preserved : goal.loop-i-preserved
loop-i-preserved c =
    let a = c.args in
    let l = c.loop-i in
    -- the first key of the object type at the loop's place
    let k = c.first_key.ensures ∙ ap (λ o. answered (first_key (root ++ subids a.rest.now) o (keys_on (content_of a.block.now) o))) c.object.ensures in
    l.invariant ∙ walk-on (keys_on (content_of a.block.now)) (root ++ subids a.rest.now) l.i (omega arith) (sym c.in_default.is ∙ k)

pub returns : goal.returns
returns c =
    let a = c.args in
    let l = c.loop-i in
    sym (ap next_of (l.invariant ∙ walk_end (keys_on (content_of a.block.now)) (root ++ subids a.rest.now) l.i (omega arith)))
