-- `verdict::faults::is_full` meets its contract. The invariant: what is counted and what the kept bindings left make and remove comes to the whole. Assumes nothing.
use Prim.Native.Nat.{◌≤◌}
use Rattle.block.specs.Image.{content_of}
use Rattle.block.specs.Lookup.{keys_of}
use Rattle.block.specs.Tables.{rows_of}
use Rattle.answer.specs.Get.{elem}
use Rattle.verdict.proofs.faults.StatusLaws.{Counted}
use Rattle.verdict.proofs.faults.is_full.Given as goal

abbrev pub invariant-loop-k : goal.invariant-loop-k
invariant-loop-k g l =
    (l.initial.rows ≤ 256) × (l.initial.room ≤ 256) × Counted l.t (λ k. elem k (keys_of (rows_of l.t (content_of l.block)))) l.initial.rows l.initial.room l.kept l.k-index l.rows l.room
