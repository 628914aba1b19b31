-- `verdict::faults::resulting_timer` meets its contract. The invariant: the number is the timer's after the kept bindings so far. Assumes nothing.
use mathlib.Core.Path.{◌≡◌}
use mathlib.Core.List.{List}
use Prim.Native.Nat.{ℕ}
use lib.ListN.{take}
use Rattle.block.specs.Cells.{timer_in}
use Rattle.block.specs.Image.{content_of}
use Rattle.answer.specs.Set.{resulting_cells}
use Rattle.verdict.specs.Kept.{meant_by_with}
use Rattle.verdict.proofs.faults.resulting_timer.Given as goal

abbrev pub invariant-loop-k : goal.invariant-loop-k
invariant-loop-k g l = (n : g.row.E.Denot → ℕ) (s : List ℕ) → l.value ≡ timer_in (resulting_cells (content_of l.block) (meant_by_with n s (take l.k-index l.kept))) l.place
