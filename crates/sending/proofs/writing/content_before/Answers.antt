-- `sending::writing::content_before` meets its contract. Assumes nothing.
use native.Mathlib.Omega.{arith}
use mathlib.Core.Path.{ap}
use lib.ListN.{length}
use Rattle.sending.proofs.WriteLaws.{unsigned-four, integer-ber, unsigned-ber, content-copied}
use Rattle.sending.proofs.writing.content_before.Goals as goal

pub returns-then-tag-eq-INTEGER : goal.returns-then-tag-eq-INTEGER
returns-then-tag-eq-INTEGER c = rw (← integer-ber c.args.tag c.args.xs.now c.if-tag-eq-INTEGER.true) c.number_before.ensures

pub signed_five-requires : goal.signed_five-requires
signed_five-requires c = unsigned-four c.args.tag (length c.args.xs.now) c.requires.0 c.if-tag.true

pub number_before-requires-then-tag : goal.number_before-requires-then-tag
number_before-requires-then-tag c = omega (arith, unsigned-four c.args.tag (length c.args.xs.now) c.requires.0 c.if-tag.true, c.requires.1, ap length c.signed_five.ensures)

pub returns-then-tag : goal.returns-then-tag
returns-then-tag c = rw (← unsigned-ber c.args.tag c.args.xs.now c.signed_five.result c.if-tag-eq-INTEGER.false c.if-tag.true c.signed_five.ensures) c.number_before-then-tag.ensures

pub returns : goal.returns
returns c = content-copied c.args.tag c.args.xs.now c.args.out.now c.args.p (omega (arith, c.requires.1)) c.if-tag-eq-INTEGER.false c.if-tag.false c.copy_in.ensures
