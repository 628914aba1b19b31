-- `get::instance_got` meets its contract: by what the name leads to. Assumes nothing.
use mathlib.Core.Path.{◌≡◌, ap, ◌∙◌}
use mathlib.Core.List.{List}
use Prim.Native.Nat.{ℕ}
use Rattle.names.specs.SubIds.{subids}
use Rattle.names.specs.Targets.{Target, target_in}
use Rattle.names.specs.declared.model.Model.{Model}
use Rattle.names.proofs.TargetLaws.{target-tells}
use Rattle.block.specs.Content.{model_of}
use Rattle.block.specs.Image.{content_of}
use Rattle.block.proofs.RoundLaws.{legal-sized}
use Rattle.get.specs.Replies.{instance_got}
use Rattle.instances.proofs.SearchLaws.{legal-ports}
use Rattle.get.proofs.instance_got.Goals as goal

-- what the name leads to
led : (m n : Model) (s : List ℕ) (t : Target) → t ≡ target_in m s → m ≡ n → t ≡ target_in n s
led m n s t e f = e ∙ ap (λ (m : Model). target_in m s) f

pub model-requires : goal.model-requires
model-requires c = (legal-sized _ c.requires).long

pub target_of-requires : goal.target_of-requires
target_of-requires c = rw c.model.ensures (legal-ports _ c.requires).1

pub existing-requires : goal.existing-requires
existing-requires c =
    let s = subids c.args.name.now in
    let t = target-tells _ s (legal-ports _ c.requires).1 (led _ (model_of (content_of c.args.block.now)) s _ c.in_ok-x.ensures c.model.ensures) in
    (c.requires, t.0)

pub returns : goal.returns
returns c =
    let content = content_of c.args.block.now in
    c.existing.ensures ∙ ap (instance_got content) (led _ (model_of content) (subids c.args.name.now) _ c.in_ok-x.ensures c.model.ensures)
