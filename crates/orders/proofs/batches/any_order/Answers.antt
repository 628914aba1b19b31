-- `orders::batches::any_order` meets its contract. Its calls are those of E13's law. Assumes nothing.
use native.Mathlib.Omega.{arith}
use Rattle.orders.proofs.BatchLaws.{two-orders}
use Rattle.orders.proofs.batches.any_order.Goals as goal

pub play_batch-first-requires : goal.play_batch-first-requires
play_batch-first-requires c = (c.requires.0, c.requires.2)

pub play_batch-second-requires : goal.play_batch-second-requires
play_batch-second-requires c = (c.requires.1, c.requires.3)

pub returns : goal.returns
returns c =
    two-orders _ (λ i. omega (arith, c.type_inv.batch i)) c.requires.0 c.requires.1 c.requires.2 c.requires.3 c.rb_check_batch-verdict.ensures
    c.play_batch-first.ensures c.play_batch-second.ensures
