use mathlib.Core.Path.{sym, ◌∙◌}
use native.Mathlib.Omega.{arith}
use Rattle.std.proofs.lemmas.List.{get_or_read}
use Rattle.block.proofs.RoundLaws.{legal-sized}
use Rattle.verdict.proofs.PastEnd.{past_end}
use Rattle.verdict.proofs.faults.StatusLaws.{rows_few, full-kept, counted_none, counted-more, counted-all}
use Rattle.verdict.proofs.faults.is_full.Goals as goal
use Rattle.verdict.proofs.faults.is_full.Goals.{in-Ok+then-is_status_of+then-removes_row-there, then-makes_row-there, else-makes_row-there, in-Ok+then-is_status_of+else-removes_row-there, in-Ok+else-is_status_of, in_default}

pub row_count-rows-requires : goal.row_count-rows-requires
row_count-rows-requires g c = (legal-sized _ c.requires.0).long

pub loop-k-init : goal.loop-k-init
loop-k-init g c =
    let f = rows_few c.args.block.now c.requires.0 c.args.t in
    (rw c.row_count-rows.ensures f.0, rw c.standing_of-at.ensures f.1, counted_none _ _ _ _ _)

pub loop-k-preserved : goal.loop-k-preserved
loop-k-preserved g c =
    let l = c.loop-k in
    let a = c.args in
    let here = get_or_read a.kept.now c.loop-k.k-index c.k-item.result c.loop-k-test.true c.k-item.is past_end in (
      l.invariant.0,
      l.invariant.1,
      counted-more _ _ _ _ _ l.k-index l.rows l.room c.loop-k-test.true l.invariant.2 c.match-k.rows c.match-k.room
          (elim c.match-k.branch [
            | in-Ok+then-is_status_of+then-removes_row-there w ↦ rw (← here, w.in-Ok.is, ← w.is_status_of.ensures, w.if-is_status_of.true, ← w.makes_row.ensures, ← w.has_row-there.ensures)
                (elim w.if-makes_row-there.branch [ then-makes_row-there u ↦ rw u.if-makes_row-there.true (omega arith) | else-makes_row-there u ↦ rw u.if-makes_row-there.false (omega arith) ])
            | in-Ok+then-is_status_of+else-removes_row-there w ↦ rw (← here, w.in-Ok.is, ← w.is_status_of.ensures, w.if-is_status_of.true, ← w.makes_row.ensures, ← w.has_row-there.ensures)
                (elim w.if-makes_row-there.branch [ then-makes_row-there u ↦ rw u.if-makes_row-there.true (omega arith) | else-makes_row-there u ↦ rw u.if-makes_row-there.false (omega arith) ])
            | in-Ok+else-is_status_of w ↦ rw (← here, w.in-Ok.is, ← w.is_status_of.ensures, w.if-is_status_of.false) (omega arith)
            | in_default w ↦ rw (← here, w.in_default.is) (omega arith)
          ])
          (elim c.match-k.branch [
            | in-Ok+then-is_status_of+then-removes_row-there w ↦ rw (← here, w.in-Ok.is, ← w.is_status_of.ensures, w.if-is_status_of.true, ← w.removes_row.ensures, ← w.has_row-there.ensures, w.if-removes_row-there.true) (omega arith)
            | in-Ok+then-is_status_of+else-removes_row-there w ↦ rw (← here, w.in-Ok.is, ← w.is_status_of.ensures, w.if-is_status_of.true, ← w.removes_row.ensures, ← w.has_row-there.ensures, w.if-removes_row-there.false) (omega arith)
            | in-Ok+else-is_status_of w ↦ rw (← here, w.in-Ok.is, ← w.is_status_of.ensures, w.if-is_status_of.false) (omega arith)
            | in_default w ↦ rw (← here, w.in_default.is) (omega arith)
          ]),
    )

pub returns : goal.returns
returns g c n s =
    counted-all _ _ _ _ _ c.loop-k.k-index _ _ c.loop-k-test.false c.loop-k.invariant.2
    ∙ rw (c.row_count-rows.ensures, c.standing_of-at.ensures) (sym (full-kept n c.args.t s _ _))
