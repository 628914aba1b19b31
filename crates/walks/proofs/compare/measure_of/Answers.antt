use native.Mathlib.Omega.{arith}
use mathlib.Core.Path.{sym, ◌∙◌}
use Rattle.walks.proofs.TurnLaws.{along-turn}
use Rattle.walks.proofs.PassLaws.{measuring-start, measuring-room, measuring-more, measuring-end}
use Rattle.walks.proofs.compare.measure_of.Goals as goal

pub loop-u-init : goal.loop-u-init
loop-u-init c = measuring-start _ _ c.requires.0 c.requires.1

pub counted-totals-requires : goal.counted-totals-requires
counted-totals-requires c = let r = measuring-room c.loop-u.invariant in (omega (arith, r.0), omega (arith, r.1), omega (arith, r.2))

pub loop-u-smaller : goal.loop-u-smaller
loop-u-smaller c =
    let v = along-turn c.loop-u.invariant.along (sym c.turn_at.ensures ∙ c.in-Some.is) in
    omega (arith, v.moves, v.one_left.inside, v.two-left.inside)

pub loop-u-preserved : goal.loop-u-preserved
loop-u-preserved c = measuring-more c.loop-u.invariant (along-turn c.loop-u.invariant.along (sym c.turn_at.ensures ∙ c.in-Some.is)) c.counted-totals.ensures

pub returns : goal.returns
returns c = measuring-end c.loop-u.invariant (sym c.turn_at.ensures ∙ c.in_default.is)
