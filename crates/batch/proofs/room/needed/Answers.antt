use mathlib.Core.Path.{ap, ◌∙◌}
use native.Mathlib.Omega.{arith}
use Prim.Native.Nat.{◌+◌}
use Rattle.block.specs.Image.{content_of}
use Rattle.block.specs.Tables.{rows_of}
use Rattle.block.proofs.RoundLaws.{legal-sized}
use Rattle.answer.specs.Tables.{first_column}
use Rattle.answer.specs.Terms.{absent}
use Rattle.batch.specs.Names.{keys_at}
use Rattle.batch.proofs.GroupLaws.{named-is, named-few}
use Rattle.batch.proofs.PairLaws.{Named}
use Rattle.batch.proofs.TurnLaws.{few, goes, further, set_here, sets_behind}
use Rattle.batch.proofs.RoomLaws.{few-rows, each_more, each-done}
use Rattle.batch.proofs.room.needed.Goals as goal

pub row_count-n-requires : goal.row_count-n-requires
row_count-n-requires c = (legal-sized _ c.requires.0).long

pub loop-at-init : goal.loop-at-init
loop-at-init c =
    (1, c.requires.2, omega (arith, c.row_count-n.ensures, few-rows c.args.block.now c.requires.0 c.args.t), omega (arith, c.row_count-n.ensures))

pub message_at-s-requires : goal.message_at-s-requires
message_at-s-requires c = goes c.loop-at.invariant.1 c.loop-at-test.true

pub groups_at-groups-requires : goal.groups_at-groups-requires
groups_at-groups-requires c =
    (c.requires.1, c.message_at-s.ensures.1, set_here c.loop-at.invariant.1 c.loop-at-test.true c.message_at-s.ensures)

pub overflow_add-n : goal.overflow_add-n
overflow_add-n c = omega (arith, c.absent_in-n.ensures.1, few c.loop-at.invariant.1 c.loop-at-test.true)

pub loop-at-smaller : goal.loop-at-smaller
loop-at-smaller c = omega (arith, further _ _ c.message_at-s.ensures, c.message_at-s.ensures.1.0)

pub loop-at-preserved : goal.loop-at-preserved
loop-at-preserved c =
    let a = c.args in
    let l = c.loop-at in
    let w = l.invariant in
    let es = rows_of a.t (content_of a.block.now) in
    let col = first_column a.t in (
      w.0 + 1,
      sets_behind w.1 c.loop-at-test.true c.message_at-s.ensures,
      omega (arith, c.absent_in-n.ensures.1, w.2, named-few c.groups_at-groups.result c.named.ensures c.groups_at-groups.ensures.1.0),
      each_more es col a.model w.1 c.loop-at-test.true c.message_at-s.ensures l.n _ w.3
          (c.absent_in-n.ensures.0 ∙ ap (λ (g : Named). absent es (keys_at col g)) (named-is c.groups_at-groups.result c.named.ensures c.groups_at-groups.ensures.0)),
    )

pub returns : goal.returns
returns c =
    let a = c.args in
    let l = c.loop-at in
    let es = rows_of a.t (content_of a.block.now) in
    omega (arith, l.invariant.3, each-done es (first_column a.t) a.model a.batch.now l.at l.invariant.0 c.loop-at-test.false)
