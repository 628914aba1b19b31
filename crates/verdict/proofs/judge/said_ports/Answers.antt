-- `verdict::judge::said_ports` meets its contract. Assumes nothing.
use native.Mathlib.Omega.{arith}
use borrow.Author.Tests.{le-leb, lt-leb}
use Rattle.octets.proofs.PartLaws.{part_length}
use Rattle.verdict.proofs.judge.said_ports.Goals as goal

pub returns-then-len-gt8 : goal.returns-then-len-gt8
returns-then-len-gt8 c =
    let a = c.args in
    rw (part_length a.request.now a.at a.len (omega arith), lt-leb a.len 8 (omega arith))

pub returns-then-only_to : goal.returns-then-only_to
returns-then-only_to c =
    let a = c.args in
    rw (part_length a.request.now a.at a.len (omega arith), le-leb a.len 8 (omega arith), ← c.set_at-set.ensures, ← c.only_to.ensures, c.if-only_to.true)

pub returns : goal.returns
returns c =
    let a = c.args in
    rw (part_length a.request.now a.at a.len (omega arith), le-leb a.len 8 (omega arith), ← c.set_at-set.ensures, ← c.only_to.ensures, c.if-only_to.false)
