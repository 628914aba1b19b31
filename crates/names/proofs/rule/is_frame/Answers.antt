-- `names::rule::is_frame` meets its contract: each arm is a row of the list of largest frames, and the rows are all of it. Assumes nothing.
use mathlib.Core.Path.{refl}
use Rattle.octets.specs.Lists.{every}
use Rattle.names.proofs.FrameLaws.{frame-in, frame-out}
use Rattle.names.proofs.rule.is_frame.Goals as goal

pub returns-in-516 : goal.returns-in-516
unfolding every
returns-in-516 c = frame-in 0 c.args.v refl c.in-516.is

pub returns-in-1470 : goal.returns-in-1470
unfolding every
returns-in-1470 c = frame-in 1 c.args.v refl c.in-1470.is

pub returns-in-2052 : goal.returns-in-2052
unfolding every
returns-in-2052 c = frame-in 2 c.args.v refl c.in-2052.is

pub returns-in-4399 : goal.returns-in-4399
unfolding every
returns-in-4399 c = frame-in 3 c.args.v refl c.in-4399.is

pub returns-in-8130 : goal.returns-in-8130
unfolding every
returns-in-8130 c = frame-in 4 c.args.v refl c.in-8130.is

pub returns-in-11407 : goal.returns-in-11407
unfolding every
returns-in-11407 c = frame-in 5 c.args.v refl c.in-11407.is

pub returns-in-17749 : goal.returns-in-17749
unfolding every
returns-in-17749 c = frame-in 6 c.args.v refl c.in-17749.is

pub returns-in-41600 : goal.returns-in-41600
unfolding every
returns-in-41600 c = frame-in 7 c.args.v refl c.in-41600.is

pub returns-in_default : goal.returns-in_default
returns-in_default c = frame-out _ c.args.v c.in_default.in_default-own.rest
