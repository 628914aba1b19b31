-- `sending::put_datagram` meets its contract. Assumes nothing.
use Rattle.sending.proofs.SendLaws.{four-put}
use Rattle.sending.proofs.put_datagram.Goals as goal

pub returns : goal.returns
returns c =
    let a = c.args in
    let w = c.requires in
    four-put a.room.now a.front.now a.community.now a.response.now _ w.1 c.copy_in.ensures c.copy_in-2.ensures c.copy_in-3.ensures c.put_bindings.ensures
