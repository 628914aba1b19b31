-- `octets::ports::first_differing` meets its contract. Assumes nothing.
use mathlib.Core.Path.{sym, ap, ◌∙◌}
use native.Mathlib.Omega.{arith}
use Rattle.octets.specs.Ports.{first_differing}
use Rattle.octets.proofs.PortLaws.{first-same, first-leading}
use Rattle.octets.proofs.ports.first_differing.Goals as goal

pub returns-then-a-b : goal.returns-then-a-b
returns-then-a-b c = sym (ap (first_differing 64 c.args.a) (sym c.if-a-b.true) ∙ first-same 64 c.args.a)

pub returns : goal.returns
returns c = sym (first-leading 64 c.args.a c.args.b (omega arith) (omega arith) c.if-a-b.false)
