use mathlib.Core.Path.{refl}
use native.Mathlib.Omega.{arith}
use Rattle.std.proofs.lemmas.List.{set-get_or}
use Rattle.message.proofs.BindingLaws.{stands}
use Rattle.message.proofs.LoopLaws.{sofar-more, located-all, located-refused, located-full}
use Rattle.message.proofs.request.bindings_in.Goals as goal
use Rattle.message.proofs.request.bindings_in.Goals.{else-loop-slot-test, then-loop-slot-test+in_default}

pub loop-slot-preserved : goal.loop-slot-preserved
loop-slot-preserved c =
    sofar-more c.loop-slot.invariant {b = c.in-Ok.bound.binding} {next = c.in-Ok.bound.next} (omega (arith, c.loop-slot-test.true)) (omega (arith, stands c.in-Ok.ensures refl)) c.in-Ok.ensures refl

pub returns-then-at-s : goal.returns-then-at-s
returns-then-at-s c = elim c.loop-slot-test.branch [
  | else-loop-slot-test w ↦ located-full c.loop-slot.invariant (omega (arith, w.loop-slot-test.false)) (omega arith)
  | then-loop-slot-test+in_default w ↦ located-refused c.loop-slot.invariant (omega (arith, w.loop-slot-test.true)) (omega arith) w.binding_at.ensures w.in_default.not-Ok
]

pub returns-else-at-s : goal.returns-else-at-s
returns-else-at-s c = elim c.loop-slot-test.branch [
  | else-loop-slot-test w ↦ rw w.bindings-is (located-all c.loop-slot.invariant (omega arith))
  | then-loop-slot-test+in_default w ↦ rw (w.bindings-is, set-get_or) (located-all c.loop-slot.invariant (omega arith))
]
