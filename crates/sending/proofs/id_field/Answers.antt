-- `sending::id_field` meets its contract. Assumes nothing.
use native.Mathlib.Omega.{arith}
use mathlib.Core.Path.{ap, ◌∙◌}
use lib.ListN.{length}
use Rattle.octets.proofs.NumberLaws.{length-be_octets}
use Rattle.sending.proofs.SendLaws.{four-bytes}
use Rattle.sending.proofs.id_field.Goals as goal

pub returns : goal.returns
returns c =
    let e = c.to_be_bytes.ensures ∙ four-bytes c.args.id in
    let w = c.number_field.ensures in
    (rw (← e) w.0, omega (arith, w.1, ap length e, length-be_octets 4 c.args.id))
