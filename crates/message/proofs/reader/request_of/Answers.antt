-- `message::reader::request_of` meets its contract: the request from its two parts. Assumes nothing.
use Rattle.message.proofs.LoopLaws.{request-read}
use Rattle.message.proofs.reader.request_of.Goals as goal

pub returns : goal.returns
returns c = rw c.bindings_in.ensures (request-read c.args.s.now _ c.in_ok-opened.ensures)
