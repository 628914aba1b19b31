-- `octets::ports::ports_to` meets its contract. Assumes nothing.
use mathlib.Core.Path.{sym, ap}
use Rattle.octets.specs.Ports.{ports_to}
use Rattle.octets.proofs.PortLaws.{ports-to-less}
use Rattle.octets.proofs.ports.ports_to.Goals as goal

pub returns-then-n-eq64 : goal.returns-then-n-eq64
unfolding ports_to
returns-then-n-eq64 c = sym (ap (ports_to 64) c.if-n-eq64.true)

pub returns : goal.returns
returns c = ports-to-less 64 c.args.n c.requires
