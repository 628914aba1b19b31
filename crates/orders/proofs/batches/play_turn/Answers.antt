-- `orders::batches::play_turn` meets its contract. The call is that of one turn; the room is a part of all rooms. Assumes nothing.
use mathlib.Core.Path.{◌≡◌}
use native.Mathlib.Omega.{arith}
use Prim.Native.Nat.{◌+◌, ◌-◌, ◌*◌}
use Rattle.message.specs.Answer.{most_octets}
use Rattle.orders.proofs.BatchLaws.{turned}
use Rattle.orders.proofs.batches.play_turn.Goals as goal

pub returns : goal.returns
returns c =
    let a = c.args in
    let em : a.s.start + a.s.len - a.s.start ≡ a.s.len = omega arith in
    let en : most_octets * a.k + most_octets - most_octets * a.k ≡ most_octets = omega arith in
    turned a.block.now a.batch.now a.rooms.now a.s a.k c.requires.1 c.requires.2 em en (omega arith) c.rb_answer.ensures
