-- `orders::batches::message_numbered` meets its contract. By the number: 0, one behind the last, or a message's. Assumes nothing.
use Rattle.orders.proofs.BatchLaws.{number-zero, number_past, number-found}
use Rattle.orders.proofs.batches.message_numbered.Goals as goal

pub returns-then-number-eq0 : goal.returns-then-number-eq0
returns-then-number-eq0 c = number-zero c.args.spans.now c.args.number c.if-number-eq0.true

pub returns-then-spans-number : goal.returns-then-spans-number
returns-then-spans-number c = number_past c.args.spans.now c.args.number c.if-spans-number.true

pub returns : goal.returns
returns c = number-found c.args.spans.now c.args.number c.if-number-eq0.false
