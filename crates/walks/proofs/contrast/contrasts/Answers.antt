-- `walks::contrast::contrasts` meets its contract. Assumes nothing.
use mathlib.Core.Path.{sym, ap, ◌∙◌}
use native.Mathlib.Omega.{arith}
use Rattle.octets.specs.Ports.{set_of}
use Rattle.walks.specs.Contrast.{contrast}
use Rattle.walks.proofs.ContrastLaws.{sets-short, whole_part}
use Rattle.walks.proofs.contrast.contrasts.Goals as goal

pub set_at-requires : goal.set_at-requires
set_at-requires c =
    let h = sets-short _ _ _ _ _ (sym c.port_sets.ensures ∙ c.if-port_sets.true) in
    (omega arith, h.0)

pub set_at-requires-then-port_sets : goal.set_at-requires-then-port_sets
set_at-requires-then-port_sets c =
    let h = sets-short _ _ _ _ _ (sym c.port_sets.ensures ∙ c.if-port_sets.true) in
    (omega arith, h.1)

pub returns-then-port_sets : goal.returns-then-port_sets
unfolding contrast
returns-then-port_sets c =
    let a = c.args in
    rw (← c.port_sets.ensures, c.if-port_sets.true, ← ap set_of (whole_part a.xs.now), ← ap set_of (whole_part a.ys.now), ← c.set_at.ensures, ← c.set_at-then-port_sets.ensures) c.port_contrast.ensures

pub returns : goal.returns
unfolding contrast
returns c = rw (← c.port_sets.ensures, c.if-port_sets.false) c.plain_contrast.ensures
