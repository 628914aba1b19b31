-- `console::take` meets its contract: refusals 1 and 21, a repeat, and octets, in this order. Assumes nothing.
use mathlib.Core.Path.{◌≡◌, sym, ◌∙◌}
use mathlib.Core.Bool.{true}
use native.Mathlib.Omega.{arith}
use lib.ListN.{get_or}
use Rattle.console.specs.State.{is_left}
use Rattle.console.proofs.CallLaws.{take_short, take-unfit, take_again, take-filling, take-heading, in-filling, filling-tail, in-heading, heading-tail}
use Rattle.console.proofs.LeftLaws.{left-length}
use Rattle.console.proofs.take.Goals as goal

pub returns-then-room-lt-MOST_OCTETS : goal.returns-then-room-lt-MOST_OCTETS
returns-then-room-lt-MOST_OCTETS c =
    rw (c.refusal.ensures, c.from.ensures) (take_short c.args.state.now c.args.chunk.now c.args.room.now (omega arith))

pub returns-then-not-is_left : goal.returns-then-not-is_left
returns-then-not-is_left c =
    let a = c.args in
    rw (c.refusal-then-not-is_left.ensures, c.from-then-not-is_left.ensures)
    (take-unfit a.state.now a.chunk.now a.room.now (omega arith) (sym c.is_left.ensures ∙ c.if-not-is_left.true))

pub front_of-phase-requires : goal.front_of-phase-requires
front_of-phase-requires c = left-length _ (sym c.is_left.ensures ∙ c.if-not-is_left.false)

pub returns-then-phase-gt-CONTENTS_PHASE : goal.returns-then-phase-gt-CONTENTS_PHASE
returns-then-phase-gt-CONTENTS_PHASE c =
    let a = c.args in
    let p = c.front_of-phase.ensures.phase in
    rw (c.refusal-then-phase-gt-CONTENTS_PHASE.ensures, p) (take_again a.state.now a.chunk.now a.room.now (omega arith) (sym c.is_left.ensures ∙ c.if-not-is_left.false) (omega (arith, p, c.if-phase-gt-CONTENTS_PHASE.true)))

pub take_contents-requires : goal.take_contents-requires
take_contents-requires c =
    let b = c.args.state.now in
    let f = c.front_of-phase.ensures in
    let l : is_left b ≡ true = sym c.is_left.ensures ∙ c.if-not-is_left.false in
    let h : get_or b 0 0 ≡ 1 = sym f.phase ∙ c.if-phase-eq-CONTENTS_PHASE.true in
    let w = in-filling b l h in
    (rw f.count (filling-tail b l h), omega (arith, w, f.count, f.size), omega (arith, w, f.size), omega arith, omega arith, omega arith)

pub returns-then-phase-eq-CONTENTS_PHASE : goal.returns-then-phase-eq-CONTENTS_PHASE
returns-then-phase-eq-CONTENTS_PHASE c =
    let a = c.args in
    let f = c.front_of-phase.ensures in
    c.take_contents.ensures
    ∙ take-filling a.state.now a.chunk.now a.room.now (omega arith) (sym c.is_left.ensures ∙ c.if-not-is_left.false) (sym f.phase ∙ c.if-phase-eq-CONTENTS_PHASE.true) f.count f.size

pub take_header-requires : goal.take_header-requires
take_header-requires c =
    let b = c.args.state.now in
    let f = c.front_of-phase.ensures in
    let l : is_left b ≡ true = sym c.is_left.ensures ∙ c.if-not-is_left.false in
    let h : get_or b 0 0 ≡ 0 = omega (arith, f.phase, c.if-phase-eq-CONTENTS_PHASE.false, c.if-phase-gt-CONTENTS_PHASE.false) in
    let w = in-heading b l h in
    (heading-tail b l h, (omega (arith, w, f.count), omega (arith, w, f.size)), omega arith)

pub returns : goal.returns
returns c =
    let a = c.args in
    let f = c.front_of-phase.ensures in
    let h : get_or a.state.now 0 0 ≡ 0 = omega (arith, f.phase, c.if-phase-eq-CONTENTS_PHASE.false, c.if-phase-gt-CONTENTS_PHASE.false) in
    c.take_header.ensures
    ∙ take-heading a.state.now a.chunk.now a.room.now (omega arith) (sym c.is_left.ensures ∙ c.if-not-is_left.false) h f.count f.size
