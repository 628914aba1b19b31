-- `message::form::field_at` meets its contract. Assumes nothing.
use mathlib.Core.Path.{◌∙◌}
use native.Mathlib.Omega.{arith}
use Rattle.message.proofs.FormLaws.{header-cut, contents-cut, not-cut}
use Rattle.message.proofs.form.field_at.Goals as goal

pub returns-then-end-lt3 : goal.returns-then-end-lt3
returns-then-end-lt3 c = header-cut _ _ _ (omega arith)

pub returns-then-end-at-2 : goal.returns-then-end-at-2
returns-then-end-at-2 c = contents-cut _ _ _ _ (c.from-len.ensures ∙ c.be2.ensures) (omega arith) (omega arith)

pub returns : goal.returns
returns c = not-cut _ _ _ _ (c.from-len.ensures ∙ c.be2.ensures) (omega arith)
