use mathlib.Core.Path.{sym, ◌∙◌}
use native.Mathlib.Omega.{arith}
use Rattle.names.specs.Index.{bases}
use Rattle.names.proofs.IndexLaws.{all-at, small}
use Rattle.names.proofs.IndexTurns.{weight-next, digit, put-turn, put-end}
use Rattle.identifiers.proofs.index.put_index.Goals as goal

pub nonzero_div-rest : goal.nonzero_div-rest
nonzero_div-rest c =
    let l = c.loop-i in
    let n = weight-next (bases c.args.shape) l.i _ _ (omega arith) c.base_at-w.ensures l.invariant.2 (omega arith) in
    n.some_left

pub overflow_cast-rest : goal.overflow_cast-rest
overflow_cast-rest c =
    let l = c.loop-i in
    let n = weight-next (bases c.args.shape) l.i _ _ (omega arith) c.base_at-w.ensures l.invariant.2 (omega arith) in
    let s = c.args.shape in
    omega (arith, (digit _ _ _ _ n l.rest l.invariant.1).0, all-at 4294967297 (bases s) l.i (small s) (omega arith))

pub nonzero_rem-rest : goal.nonzero_rem-rest
nonzero_rem-rest c =
    let l = c.loop-i in
    let n = weight-next (bases c.args.shape) l.i _ _ (omega arith) c.base_at-w.ensures l.invariant.2 (omega arith) in
    n.some_left

pub loop-i-preserved : goal.loop-i-preserved
loop-i-preserved c =
    let a = c.args in
    let l = c.loop-i in
    let n = weight-next (bases c.args.shape) l.i _ _ (omega arith) c.base_at-w.ensures l.invariant.2 (omega arith) in
    let f = c.put_be4 in (
      f.auto.s ∙ l.invariant.0,
      (digit _ _ _ _ n l.rest l.invariant.1).1,
      n.next,
      rw f.ensures (put-turn (bases a.shape) l.i _ _ n l.s a.at l.rest (omega arith) (omega arith) ∙ l.invariant.3),
    )

pub returns : goal.returns
returns c =
    let a = c.args in
    let l = c.loop-i in
    sym (put-end (bases a.shape) l.s l.i _ l.rest (omega arith)) ∙ l.invariant.3
