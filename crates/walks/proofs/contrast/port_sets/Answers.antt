-- `walks::contrast::port_sets` meets its contract. Assumes nothing.
use mathlib.Core.Path.{sym, ◌∙◌}
use mathlib.Core.Bool.{false≢true}
use Rattle.walks.specs.Contrast.{port_sets}
use Rattle.walks.proofs.contrast.port_sets.Goals as goal
use Rattle.walks.proofs.contrast.port_sets.Goals.{then-short_string, else-short_string}

pub returns-then-short_string-2 : goal.returns-then-short_string-2
unfolding port_sets
returns-then-short_string-2 c =
    elim c.if-short_string.branch [
      | then-short_string w ↦
          rw (← c.short_string.ensures, w.if-short_string.true, ← w.short_string-then-short_string.ensures, ← w.value-is, c.if-short_string-2.true) c.ports_column.ensures
      | else-short_string w ↦ absurd (false≢true (sym w.if-short_string.false ∙ sym w.value-is ∙ c.if-short_string-2.true))
    ]

pub returns-else-short_string-2 : goal.returns-else-short_string-2
unfolding port_sets
returns-else-short_string-2 c =
    elim c.if-short_string.branch [
      | then-short_string w ↦ rw (← c.short_string.ensures, w.if-short_string.true, ← w.short_string-then-short_string.ensures, ← w.value-is, c.if-short_string-2.false)
      | else-short_string w ↦ rw (← c.short_string.ensures, w.if-short_string.false) c.if-short_string-2.false
    ]
