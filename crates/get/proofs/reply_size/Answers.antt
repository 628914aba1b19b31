-- `get::reply_size` meets its contract: a name has at most 512 octets and a value 32, so the sum fits. Assumes nothing.
use mathlib.Core.Path.{sym, subst, ◌∙◌}
use native.Mathlib.Omega.{arith}
use lib.ListN.{length}
use Rattle.block.specs.Image.{content_of}
use Rattle.block.proofs.RoundLaws.{legal-valid}
use Rattle.answer.specs.Values.{value_of}
use Rattle.std.specs.Prelude.{Ok}
use Rattle.get.specs.Replies.{Shown}
use Rattle.get.proofs.ReplyLaws.{value-brief, shown-short, shown-binding, missing-binding}
use Rattle.get.proofs.reply_size.Goals as goal

-- the instance is one that is there
pub shown_size-requires : goal.shown_size-requires
shown_size-requires c =
    let t : Shown (content_of c.args.block.now) (Ok c.in-Ok.x) =
    subst (Shown (content_of c.args.block.now)) c.in-Ok.is c.requires.2 in
    t.0

pub value_size-requires : goal.value_size-requires
value_size-requires c =
    let t : Shown (content_of c.args.block.now) (Ok c.in-Ok.x) =
    subst (Shown (content_of c.args.block.now)) c.in-Ok.is c.requires.2 in
    (c.requires.0, t)

pub binding_size-requires : goal.binding_size-requires
binding_size-requires c =
    let t : Shown (content_of c.args.block.now) (Ok c.in-Ok.x) =
    subst (Shown (content_of c.args.block.now)) c.in-Ok.is c.requires.2 in
    let place = c.in-Ok.x.place in
    let brief = value-brief (content_of c.args.block.now) (legal-valid _ c.requires.0).0 place c.in-Ok.x.key t.0 in
    omega (arith, c.value_size.ensures, c.shown_size.ensures, brief, shown-short c.args.kind (length c.args.name.now) place c.requires.1)

pub returns-in-Ok : goal.returns-in-Ok
returns-in-Ok c =
    let a = c.args in
    let x = c.in-Ok.x in
    let v = value_of (content_of a.block.now) x.place x.key in
    rw c.in-Ok.is
    (c.binding_size.ensures ∙ rw (c.value_size.ensures, c.shown_size.ensures) (sym (shown-binding a.kind a.name.now x v.0 v.1)))

pub returns-in-Err : goal.returns-in-Err
returns-in-Err c =
    let a = c.args in
    rw c.in-Err.is (c.binding_size-in-Err.ensures ∙ sym (missing-binding a.name.now _))
