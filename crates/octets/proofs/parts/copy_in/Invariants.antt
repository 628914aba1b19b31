-- `octets::parts::copy_in` meets its contract. The invariant: the first i octets of src are patched in. Assumes nothing.
use mathlib.Core.Path.{◌≡◌}
use lib.ListN.{take}
use Rattle.octets.specs.Parts.{patch}
use Rattle.octets.proofs.parts.copy_in.Given as goal

abbrev pub invariant-loop-i : goal.invariant-loop-i
invariant-loop-i l = l.s ≡ patch l.initial.s l.at (take l.i l.src)
