-- `writer::put_binding` meets its contract: a header and two fields, one behind the other, are one patch. Assumes nothing.
use native.Mathlib.Omega.{arith}
use Rattle.message.specs.Answer.{bound}
use Rattle.message.proofs.AnswerLaws.{binding_put}
use Rattle.writer.proofs.put_binding.Goals as goal

pub returns : goal.returns
returns c =
    let a = c.args in
    cc (binding_put a.room.now a.at (bound a.name.now a.tag a.content.now) (omega arith))
