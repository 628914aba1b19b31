-- `get::put_bound` meets its contract. Assumes nothing.
use native.Mathlib.Omega.{arith}
use Rattle.message.specs.Answer.{bound}
use Rattle.message.proofs.AnswerLaws.{length-binding}
use Rattle.get.proofs.put_bound.Goals as goal

pub put_binding-requires : goal.put_binding-requires
put_binding-requires c = let a = c.args in omega (arith, length-binding (bound a.name.now a.tag a.octets.now))

pub overflow_add-result : goal.overflow_add-result
overflow_add-result c = let a = c.args in omega (arith, c.binding_size.ensures, length-binding (bound a.name.now a.tag a.octets.now))

pub returns : goal.returns
returns c = let a = c.args in (c.put_binding.ensures, omega (arith, c.binding_size.ensures, length-binding (bound a.name.now a.tag a.octets.now)))
