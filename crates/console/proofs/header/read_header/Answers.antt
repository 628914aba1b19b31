use native.Mathlib.Omega.{arith}
use Rattle.console.proofs.HeaderLaws.{head-wrong, head-whole, head-inside}
use Rattle.console.proofs.header.read_header.Goals as goal

pub returns-in-Err : goal.returns-in-Err
returns-in-Err c =
    head-wrong _ _ c.loop-i.i c.loop-i.at c.loop-i.invariant.3 (omega arith) (omega arith) c.in-Err.ensures

pub returns-then-next-eq-HEADER_OCTETS : goal.returns-then-next-eq-HEADER_OCTETS
returns-then-next-eq-HEADER_OCTETS c =
    head-whole _ _ c.loop-i.i c.loop-i.at c.loop-i.invariant.3 (omega arith) (omega arith) c.in-Ok.ensures c.if-next-eq-HEADER_OCTETS.true

pub loop-i-preserved : goal.loop-i-preserved
loop-i-preserved c =
    let n = c.in-Ok.ensures in (
      omega (arith, n.further.0, c.if-next-eq-HEADER_OCTETS.false),
      n.further.1,
      omega (arith, n.further.0),
      head-inside _ _ c.loop-i.i c.loop-i.at c.loop-i.invariant.3 (omega arith) (omega arith) n (omega (arith, n.further.0, c.if-next-eq-HEADER_OCTETS.false)),
    )
