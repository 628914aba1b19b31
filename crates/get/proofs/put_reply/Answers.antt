-- `get::put_reply` meets its contract: an instance with its value, or the tag alone. Assumes nothing.
use mathlib.Core.Path.{subst}
use native.Mathlib.Omega.{arith}
use Rattle.std.specs.Prelude.{Ok}
use Rattle.block.specs.Image.{content_of}
use Rattle.block.proofs.RoundLaws.{legal-valid}
use Rattle.get.specs.Replies.{Shown}
use Rattle.get.proofs.ReplyLaws.{value-brief, key-limit}
use Rattle.get.proofs.put_reply.Goals as goal

-- the instance is one that is there
pub value_of-requires : goal.value_of-requires
value_of-requires c =
    let t : Shown (content_of c.args.block.now) (Ok c.in-Ok.x) = subst (Shown (content_of c.args.block.now)) c.in-Ok.is c.requires.2 in
    (c.requires.0, t)

pub put_instance-requires : goal.put_instance-requires
put_instance-requires c =
    let x = c.in-Ok.x in
    let content = content_of c.args.block.now in
    let ok = (legal-valid _ c.requires.0).0 in
    let t : Shown content (Ok x) = subst (Shown content) c.in-Ok.is c.requires.2 in
    (c.requires.1, t.0, key-limit content ok x t, rw c.value_of.ensures (value-brief content ok x.place x.key t.0), rw c.value_of.ensures (rw c.in-Ok.is at c.requires.3))

pub put_bound-requires : goal.put_bound-requires
put_bound-requires c = (c.requires.1, omega arith, rw c.from.ensures (rw c.in-Err.is at c.requires.3))

pub returns-in-Ok : goal.returns-in-Ok
returns-in-Ok c = rw (c.in-Ok.is, ← c.value_of.ensures) c.put_instance.ensures

pub returns-in-Err : goal.returns-in-Err
returns-in-Err c = rw (c.in-Err.is, ← c.from.ensures) c.put_bound.ensures
