-- `console::state::Front::is_sound` meets its contract, phase by phase. Assumes nothing.
use native.Mathlib.Omega.{arith}
use Rattle.console.proofs.LeftLaws.{numbers-heading, numbers-filling, numbers-ended}
use Rattle.console.proofs.state.Front.is_sound.Goals as goal

pub returns-then-self-eq-HEADER_PHASE : goal.returns-then-self-eq-HEADER_PHASE
returns-then-self-eq-HEADER_PHASE c = numbers-heading _ _ _ c.if-self-eq-HEADER_PHASE.true (omega arith)

pub returns-then-self-eq-CONTENTS_PHASE : goal.returns-then-self-eq-CONTENTS_PHASE
returns-then-self-eq-CONTENTS_PHASE c = numbers-filling _ _ _ c.if-self-eq-CONTENTS_PHASE.true

pub returns : goal.returns
returns c = rw (c.from.ensures, c.from-2.ensures) (numbers-ended _ _ _ c.if-self-eq-HEADER_PHASE.false c.if-self-eq-CONTENTS_PHASE.false)
