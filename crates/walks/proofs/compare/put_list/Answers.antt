use native.Mathlib.Omega.{arith}
use mathlib.Core.Path.{sym, ◌∙◌}
use Rattle.walks.proofs.TurnLaws.{along-turn}
use Rattle.walks.proofs.PassLaws.{writing_start, writing-room, writing_more, writing-end}
use Rattle.walks.proofs.compare.put_list.Goals as goal

pub loop-u-init : goal.loop-u-init
loop-u-init c = writing_start _ _ _ c.requires.0 c.requires.1

pub put_entry-at-requires : goal.put_entry-at-requires
put_entry-at-requires c = writing-room c.loop-u.invariant c.requires.2 (along-turn c.loop-u.invariant.along (sym c.turn_at.ensures ∙ c.in-Some.is))

pub loop-u-smaller : goal.loop-u-smaller
loop-u-smaller c =
    let v = along-turn c.loop-u.invariant.along (sym c.turn_at.ensures ∙ c.in-Some.is) in
    omega (arith, v.moves, v.one_left.inside, v.two-left.inside)

pub loop-u-preserved : goal.loop-u-preserved
loop-u-preserved c =
    writing_more c.loop-u.invariant c.requires.2 (along-turn c.loop-u.invariant.along (sym c.turn_at.ensures ∙ c.in-Some.is)) c.put_entry-at.ensures.0 c.put_entry-at.ensures.1

pub shape_of-list : goal.shape_of-list
shape_of-list c = c.loop-u.invariant.kept

pub returns : goal.returns
returns c = writing-end c.loop-u.invariant c.requires.2 (sym c.turn_at.ensures ∙ c.in_default.is)
