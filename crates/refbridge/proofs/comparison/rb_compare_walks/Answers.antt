-- `refbridge::comparison::rb_compare_walks` meets its contract. Assumes nothing.
use mathlib.Core.Path.{◌∙◌}
use Rattle.walks.proofs.CompareLaws.{tail-length}
use Rattle.refbridge.proofs.comparison.rb_compare_walks.Goals as goal

pub unread_tail-tail-requires : goal.unread_tail-tail-requires
unread_tail-tail-requires c = c.in-Ok.ensures.1

pub returns-in-Ok : goal.returns-in-Ok
returns-in-Ok c =
    let a = c.args in
    let e = c.in-Ok.ensures in
    rw (c.from.ensures, tail-length a.reference.now a.device.now _ e.1 c.unread_tail-tail.ensures) e.0

pub returns-in-Err : goal.returns-in-Err
returns-in-Err c = c.refused.ensures _ ∙ c.in-Err.ensures.0
