-- `verdict::faults::verdict_of` meets its contract. The invariant: the verdict is that of the kept bindings left, counted from the next index. Assumes nothing.
use mathlib.Core.Path.{◌≡◌}
use mathlib.Core.List.{List, map}
use Prim.Native.Nat.{ℕ, ◌+◌}
use lib.ListN.{drop}
use Rattle.std.specs.Prelude.{All}
use Rattle.block.specs.Image.{content_of}
use Rattle.answer.specs.Set.{first_fault, verdict}
use Rattle.verdict.specs.Kept.{meant_with, meant_by_with, KeepsNumbers, NonZero}
use Rattle.verdict.proofs.faults.verdict_of.Given as goal

abbrev pub invariant-loop-i : goal.invariant-loop-i
invariant-loop-i g l =
    (n : g.row.E.Denot → ℕ) (s : List ℕ) → KeepsNumbers g.E.From.from_gives n → All (NonZero n) l.kept → verdict (content_of l.block) (meant_by_with n s l.kept) ≡ first_fault (content_of l.block) (meant_by_with n s l.kept) (map (meant_with n s) (drop l.i l.kept)) (l.i + 1)
