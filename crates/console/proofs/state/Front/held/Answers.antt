-- `console::state::Front::held` meets its contract. Assumes nothing.
use Rattle.console.proofs.LeftLaws.{held-count, held_none}
use Rattle.console.proofs.state.Front.held.Goals as goal

pub returns-then-self-eq-CONTENTS_PHASE : goal.returns-then-self-eq-CONTENTS_PHASE
returns-then-self-eq-CONTENTS_PHASE c = held-count _ _ c.if-self-eq-CONTENTS_PHASE.true

pub returns-else-self-eq-CONTENTS_PHASE : goal.returns-else-self-eq-CONTENTS_PHASE
returns-else-self-eq-CONTENTS_PHASE c = held_none _ _ c.if-self-eq-CONTENTS_PHASE.false
