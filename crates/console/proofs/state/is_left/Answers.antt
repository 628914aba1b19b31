-- `console::state::is_left` meets its contract: the tests of the numbers and of the zeros are those of the image. Assumes nothing.
use mathlib.Core.Path.{◌∙◌}
use native.Mathlib.Omega.{arith}
use Rattle.console.proofs.LeftLaws.{not_left, left-bad, left-good, sound-front, held-front, front-fits}
use Rattle.console.proofs.state.is_left.Goals as goal

pub returns-then-state-ne-STATE_OCTETS : goal.returns-then-state-ne-STATE_OCTETS
returns-then-state-ne-STATE_OCTETS c = not_left _ c.if-state-ne-STATE_OCTETS.true

pub returns-then-not-is_sound : goal.returns-then-not-is_sound
returns-then-not-is_sound c =
    let f = c.front_of-front.ensures in
    left-bad _ (λ i. omega (arith, c.type_inv.state i)) c.if-state-ne-STATE_OCTETS.false f.count f.size
    (sound-front f c.is_sound.ensures c.if-not-is_sound.true)

pub overflow_add-held : goal.overflow_add-held
overflow_add-held c =
    omega (arith, front-fits c.front_of-front.result c.is_sound.ensures c.if-not-is_sound.false c.held-held.ensures)

pub overflow_sub-held : goal.overflow_sub-held
overflow_sub-held c =
    front-fits c.front_of-front.result c.is_sound.ensures c.if-not-is_sound.false c.held-held.ensures

pub all_zero-requires : goal.all_zero-requires
all_zero-requires c =
    omega (arith, front-fits c.front_of-front.result c.is_sound.ensures c.if-not-is_sound.false c.held-held.ensures)

pub returns : goal.returns
returns c =
    let f = c.front_of-front.ensures in
    c.all_zero.ensures ∙
    left-good _ (λ i. omega (arith, c.type_inv.state i)) c.if-state-ne-STATE_OCTETS.false f.count f.size
    (sound-front f c.is_sound.ensures c.if-not-is_sound.false) (held-front f c.held-held.ensures)
