-- `batch::groups::group_named` meets its contract: by what the name leads to. Assumes nothing.
use mathlib.Core.Path.{ap, ◌∙◌}
use Rattle.names.specs.SubIds.{subids}
use Rattle.names.proofs.TargetLaws.{target-tells}
use Rattle.answer.specs.Judge.{grouped, group_of}
use Rattle.batch.proofs.GroupLaws.{no-group}
use Rattle.batch.proofs.groups.group_named.Goals as goal

pub group_of-requires : goal.group_of-requires
group_of-requires c =
    (target-tells c.args.model (subids c.args.name.now) c.requires c.in-Ok.ensures).0

pub returns-in-Ok : goal.returns-in-Ok
unfolding group_of
returns-in-Ok c = rw c.group_of.ensures (ap grouped c.in-Ok.ensures)

pub returns-in-Err : goal.returns-in-Err
unfolding group_of
returns-in-Err c = no-group _ ∙ ap grouped c.in-Err.ensures
