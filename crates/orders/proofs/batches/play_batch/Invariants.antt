-- `orders::batches::play_batch` meets its contract. The invariant: the turns so far are played. Assumes nothing.
use Rattle.std.specs.Prelude.{◌≡◌, length}
use Rattle.orders.proofs.BatchLaws.{Sofar}
use Rattle.orders.proofs.batches.play_batch.Given as goal

abbrev pub invariant-loop-k : goal.invariant-loop-k
invariant-loop-k l = Sofar l.initial.block l.batch l.order l.initial.rooms l.k l.results l.rooms l.block × (length l.block ≡ length l.initial.block)
