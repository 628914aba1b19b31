-- `datagram::placing::put_content` meets its contract. Assumes nothing.
use native.Mathlib.Omega.{arith}
use mathlib.Core.Path.{ap, ◌∙◌}
use Prim.Native.Nat.{ℕ}
use mathlib.Core.List.{List}
use lib.ListN.{length, drop, length-take}
use Rattle.octets.specs.Parts.{patch}
use Rattle.message.specs.Answer.{bound, binding_octets}
use Rattle.datagram.proofs.PlaceLaws.{content-same, content-last, number_short}
use Rattle.datagram.proofs.placing.put_content.Goals as goal

pub put_binding-requires : goal.put_binding-requires
put_binding-requires c = omega (arith, ap length (content-same c.args.tag c.args.content.now c.if-tag-content.true))

pub returns-then-tag-content : goal.returns-then-tag-content
returns-then-tag-content c = c.put_binding.ensures ∙ ap (λ (u : List ℕ). patch c.args.room.now c.args.to (binding_octets (bound c.args.name.now c.args.tag u))) (content-same c.args.tag c.args.content.now c.if-tag-content.true)

pub five_of-five-requires : goal.five_of-five-requires
five_of-five-requires c = number_short c.args.tag c.args.content.now c.requires.1 c.if-tag-content.false

pub put_binding-requires-2 : goal.put_binding-requires-2
put_binding-requires-2 c = omega (arith, ap length (content-last c.args.tag c.args.content.now c.if-tag-content.false (number_short c.args.tag c.args.content.now c.requires.1 c.if-tag-content.false) c.five_of-five.ensures), length-take 4 (drop 1 c.five_of-five.result))

pub returns : goal.returns
returns c = c.put_binding-2.ensures ∙ ap (λ (u : List ℕ). patch c.args.room.now c.args.to (binding_octets (bound c.args.name.now c.args.tag u))) (content-last c.args.tag c.args.content.now c.if-tag-content.false (number_short c.args.tag c.args.content.now c.requires.1 c.if-tag-content.false) c.five_of-five.ensures)
