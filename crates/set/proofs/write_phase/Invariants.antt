-- `set::write_phase` meets its contract: the block is written after each kept binding, and says what the kept bindings so far make. Assumes nothing.
use mathlib.Core.Path.{◌≡◌}
use Prim.Native.Nat.{ℕ, ◌≤◌}
use lib.ListN.{length, take}
use Rattle.block.specs.Content.{Content}
use Rattle.block.specs.Image.{content_of}
use Rattle.verdict.specs.Kept.{meant_by}
use Rattle.set.specs.Phases.{pass, in_phase, FewRows, Written}
use Rattle.set.proofs.write_phase.Given as goal

abbrev pub invariant-loop-k : goal.invariant-loop-k
invariant-loop-k l =
    (length l.block ≡ length l.initial.block) × Written l.block
    × ((c : Content) → content_of l.initial.block ≡ c → ((j : ℕ) → j ≤ l.k-index → FewRows (in_phase (pass l.phase) c (meant_by l.request (take j l.kept))))
    → content_of l.block ≡ in_phase (pass l.phase) c (meant_by l.request (take l.k-index l.kept)))
