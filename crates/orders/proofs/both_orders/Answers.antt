-- `orders::both_orders` meets its contract: its four calls are those of the order law. Assumes nothing.
use native.Mathlib.Omega.{arith}
use Rattle.orders.proofs.PairLaws.{crossed}
use Rattle.orders.proofs.both_orders.Goals as goal

pub returns : goal.returns
returns c =
    crossed _ (λ i. omega (arith, c.type_inv.a i)) (λ i. omega (arith, c.type_inv.b i)) c.rb_answer-a1.ensures c.rb_answer-b2.ensures c.rb_answer-b1.ensures c.rb_answer-a2.ensures
