-- `walks::compare::compare_read` meets its contract. Assumes nothing.
use mathlib.Core.Path.{refl, sym, ◌∙◌}
use native.Mathlib.Omega.{arith}
use Rattle.walks.proofs.CompareLaws.{compared-read, listed-long, listed-room, listed-device, listed-reference}
use Rattle.walks.proofs.compare.compare_read.Goals as goal

pub returns-then-list-totals : goal.returns-then-list-totals
returns-then-list-totals c =
    let p = c.requires in
    let a = c.args in
    (sym (compared-read a.s.now a.t.now a.list.now p.0 p.1 ∙ listed-long c.measure_of-m.ensures a.list.now c.if-list-totals.true), tt)

pub put_list-requires : goal.put_list-requires
put_list-requires c =
    let p = c.requires in
    (p.0, p.1, listed-room c.measure_of-m.ensures c.args.list.now c.if-list-totals.false refl)

pub returns-then-m-t : goal.returns-then-m-t
returns-then-m-t c =
    let p = c.requires in
    let a = c.args in
    let m = c.measure_of-m.ensures in
    (listed-device m a.list.now c.if-list-totals.false c.put_list.ensures c.if-m-t.true ∙ sym (compared-read a.s.now a.t.now a.list.now p.0 p.1), record { ordered = m.theirs; within = omega arith })

pub returns : goal.returns
returns c =
    let p = c.requires in
    let a = c.args in
    let m = c.measure_of-m.ensures in
    (listed-reference m a.list.now c.if-list-totals.false c.put_list.ensures c.if-m-t.false ∙ sym (compared-read a.s.now a.t.now a.list.now p.0 p.1), record { ordered = m.ours; within = omega arith })
