-- `console::frames::frame_at` meets its contract: the header's end says what stands there. Assumes nothing.
use native.Mathlib.Omega.{arith}
use Rattle.std.proofs.lemmas.Result.{err_from_is_err_and}
use Rattle.console.proofs.BatchLaws.{head-here, frame-wrong, frame-short, frame-cut, frame-whole}
use Rattle.console.proofs.HeaderLaws.{head-as}
use Rattle.console.proofs.frames.frame_at.Goals as goal

pub returns-in_err-p : goal.returns-in_err-p
returns-in_err-p c =
    let a = c.args in
    let p = err_from_is_err_and c.from_residual.result c.from_residual.ensures.1 in
    rw (p.1, p.2) (frame-wrong a.batch.now a.at _ (head-as c.in_err-p.was (head-here a.batch.now a.at c.read_header-h.ensures)))

pub returns-then-p-ne-HEADER_OCTETS : goal.returns-then-p-ne-HEADER_OCTETS
returns-then-p-ne-HEADER_OCTETS c =
    let a = c.args in
    frame-short a.batch.now a.at _ (head-as c.in_ok-p.was (head-here a.batch.now a.at c.read_header-h.ensures)) c.if-p-ne-HEADER_OCTETS.true

pub returns-then-batch-start : goal.returns-then-batch-start
returns-then-batch-start c =
    let a = c.args in
    frame-cut a.batch.now a.at _ (head-as c.in_ok-p.was (head-here a.batch.now a.at c.read_header-h.ensures)) c.if-p-ne-HEADER_OCTETS.false c.if-batch-start.true

pub returns : goal.returns
returns c =
    let a = c.args in
    frame-whole a.batch.now a.at _ (head-as c.in_ok-p.was (head-here a.batch.now a.at c.read_header-h.ensures)) c.if-p-ne-HEADER_OCTETS.false (omega arith) (omega arith)
