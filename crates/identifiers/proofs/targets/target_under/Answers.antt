-- `identifiers::targets::target_under` meets its contract: by whether the device has the object, and by the key that the rest of the name stands for. Assumes nothing.
use mathlib.Core.Path.{sym, ◌∙◌}
use Rattle.names.specs.SubIds.{subids}
use Rattle.names.proofs.TargetLaws.{target_found, target-own}
use Rattle.identifiers.proofs.targets.target_under.Goals as goal

pub returns-in-Some : goal.returns-in-Some
returns-in-Some c =
    let a = c.args in
    target_found a.m a.i a.name.now c.object-o.ensures (sym c.in-Some.is ∙ c.key_of.ensures)
    ∙ sym (target-own a.m a.i (subids a.name.now) c.object-o.ensures c.has_object.ensures c.if-has_object.true)

pub returns-in-None : goal.returns-in-None
returns-in-None c =
    let a = c.args in
    target_found a.m a.i a.name.now c.object-o.ensures (sym c.in-None.is ∙ c.key_of.ensures)
    ∙ sym (target-own a.m a.i (subids a.name.now) c.object-o.ensures c.has_object.ensures c.if-has_object.true)
