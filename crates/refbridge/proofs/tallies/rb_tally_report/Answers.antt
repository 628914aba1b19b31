-- `refbridge::tallies::rb_tally_report` meets its contract. Assumes nothing.
use mathlib.Core.Path.{◌∙◌, ap}
use Rattle.tally.specs.Scan.{report_of}
use Rattle.tally.proofs.TallyLaws.{reported-so}
use Rattle.refbridge.proofs.tallies.rb_tally_report.Goals as goal

pub returns : goal.returns
returns c = c.reported.ensures ∙ ap (λ s. report_of s c.args.ended) c.scan.ensures ∙ reported-so 0 c.args.cases.now c.args.ended
