use native.Mathlib.Omega.{arith}
use Rattle.block.specs.Image.{content_of}
use Rattle.block.specs.Tables.{rows_of}
use Rattle.answer.specs.Tables.{first_column}
use Rattle.batch.proofs.RoomLaws.{absent-end, absent-turn}
use Rattle.std.proofs.Common.{ap, ◌∙◌}
use Rattle.std.proofs.lemmas.List.{take_rest}
use Rattle.std.specs.Prelude.{Bool, ◌+◌, cond, map, drop}
use Rattle.answer.specs.Terms.{absent}
use Rattle.batch.specs.Names.{keys_at}
use Rattle.batch.specs.Found.{meant}
use Rattle.batch.proofs.room.absent_in.Goals.{then-is_new, else-is_new}
use Rattle.batch.proofs.room.absent_in.Goals as goal

pub returns : goal.returns
returns c =
    let a = c.args in
    let l = c.loop-i in
    (omega (arith, l.invariant.1, absent-end (rows_of a.t (content_of a.block.now)) (first_column a.t) a.of.now l.i (omega arith)), omega arith)

pub loop-i-preserved : goal.loop-i-preserved
loop-i-preserved c =
    let a = c.args in
    let l = c.loop-i in
    let es = rows_of a.t (content_of a.block.now) in
    let k = first_column a.t in
    let turn = absent-turn es k a.of.now l.i c.loop-i-test.true in
    let rest = absent es (keys_at k (map meant (drop (l.i + 1) a.of.now))) in
    -- the names behind, as a slice of those left
    let told = rw (take_rest a.of.now (l.i + 1)) at c.is_new.ensures in (
      elim c.if-is_new.branch [ then-is_new w ↦ omega (arith, l.invariant.0, w.n-is) | else-is_new w ↦ omega (arith, l.invariant.0, w.n-is) ],
      elim c.if-is_new.branch [
        | then-is_new w ↦ omega (arith, l.invariant.1, turn ∙ told ∙ ap (λ (x : Bool). cond x 1 0 + rest) w.if-is_new.true, w.n-is)
        | else-is_new w ↦ omega (arith, l.invariant.1, turn ∙ told ∙ ap (λ (x : Bool). cond x 1 0 + rest) w.if-is_new.false, w.n-is)
      ],
    )
