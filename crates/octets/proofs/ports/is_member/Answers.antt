-- `octets::ports::is_member` meets its contract. Assumes nothing.
use mathlib.Core.Path.{◌≡◌, sym, ap, ◌∙◌}
use native.Mathlib.Omega.{arith}
use Rattle.octets.specs.Ports.{member}
use Rattle.octets.proofs.PortLaws.{member-in, member-zero, member-out}
use Rattle.octets.proofs.ports.is_member.Goals as goal

pub returns-in-1-to-64 : goal.returns-in-1-to-64
returns-in-1-to-64 c = sym (member-in 64 _ _ (omega arith) (omega arith))

pub returns-in_default : goal.returns-in_default
returns-in_default c =
    let e : c.args.port ≡ 0 = omega arith in
    sym (ap (member 64 c.args.set) e ∙ member-zero 64 c.args.set)

pub returns-in_default-2 : goal.returns-in_default-2
returns-in_default-2 c = sym (member-out 64 _ _ (omega arith))
