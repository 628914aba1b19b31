-- `identifiers::targets::target_of` meets its contract: by the object type that is a prefix of the name. Assumes nothing.
use mathlib.Core.Path.{sym, ◌∙◌}
use Rattle.names.specs.SubIds.{subids}
use Rattle.names.specs.Table.{place_of}
use Rattle.names.proofs.AnswerLaws.{told-answer}
use Rattle.names.proofs.TableLaws.{place_is}
use Rattle.names.proofs.TargetLaws.{place-fits}
use Rattle.identifiers.proofs.targets.target_of.Goals as goal

pub target_under-requires : goal.target_under-requires
target_under-requires c =
    let s = c.args.name.now in
    let e = told-answer (place_of (subids s)) (sym c.in-Some.is ∙ c.type_of.ensures) in
    (c.requires, (place_is (subids s) _ e).0, place-fits s _ e)
