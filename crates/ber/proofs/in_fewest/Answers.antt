-- `ber::in_fewest` meets its contract. Assumes nothing.
use native.Mathlib.Omega.{arith}
use mathlib.Core.Path.{◌∙◌}
use lib.ListN.{get_or}
use Rattle.ber.proofs.BerLaws.{fewest-none, fewest-one, fewest-more, lead_low, lead_high, lead-other}
use Rattle.ber.proofs.in_fewest.Goals as goal

pub returns-in-empty : goal.returns-in-empty
returns-in-empty c = fewest-none _ (omega arith)

pub returns-in-len1 : goal.returns-in-len1
returns-in-len1 c = fewest-one _ (omega arith)

pub returns-in-0 : goal.returns-in-0
returns-in-0 c = lead_low _ _ c.in-0.is ∙ fewest-more _ c.in-len2-up.len_at_least

pub returns-in-255 : goal.returns-in-255
returns-in-255 c = lead_high _ _ c.in-255.is ∙ fewest-more _ c.in-len2-up.len_at_least

pub returns-in_default : goal.returns-in_default
returns-in_default c = lead-other (get_or c.args.contents.now 0 0) (get_or c.args.contents.now 1 0) (λ e. omega arith) (λ e. omega arith) ∙ fewest-more _ c.in-len2-up.len_at_least
