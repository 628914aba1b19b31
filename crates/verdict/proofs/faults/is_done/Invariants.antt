-- `verdict::faults::is_done` meets its contract. The invariant: the answer for all kept bindings is the answer for those left. Assumes nothing.
use mathlib.Core.Path.{◌≡◌}
use lib.ListN.{drop}
use Rattle.verdict.specs.Kept.{is_done}
use Rattle.verdict.proofs.faults.is_done.Given as goal

abbrev pub invariant-loop-k : goal.invariant-loop-k
invariant-loop-k g l = is_done l.act l.t l.key l.kept ≡ is_done l.act l.t l.key (drop l.k-index l.kept)
