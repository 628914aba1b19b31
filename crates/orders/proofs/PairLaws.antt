-- Demand 3's four calls. Assumes nothing.
use Prim.Native.Nat.{ℕ, ◌<◌}
use mathlib.Core.Path.{◌≡◌, sym, ap, ◌∙◌}
use mathlib.Core.List.{List}
use lib.ListN.{length}
use Rattle.octets.proofs.NumberLaws.{Octets}
use Rattle.message.specs.Answer.{most_octets}
use Rattle.answer.specs.Respond.{Outcome, answer_of}
use Rattle.answer.specs.Terms.{Readable}
use Rattle.answer.proofs.Theorems.{order}
use Rattle.refbridge.specs.Calls.{outcome}
use Rattle.refbridge.proofs.CallLaws.{room-short}
use Rattle.orders.specs.declared.FourCalls.{FourCalls}
use Rattle.orders.specs.Pairs.{ReadableSet, BothOrders}

-- a readable set of octets
readable : (s : List ℕ) → Octets s → ReadableSet s → Readable s
readable s o r = record { octets = o; short = r.short; set = r.set }

-- demand 3: four calls, each on the block that the call before it left
pub crossed : {one other a b r1 r2 r3 r4 q1 q2 q3 q4 one1 one2 other1 other2 : List ℕ} (q : FourCalls) → Octets a → Octets b
    → outcome q.a1 q1 one1 ≡ answer_of one a r1
    → outcome q.b2 q2 one2 ≡ answer_of one1 b r2
    → outcome q.b1 q3 other1 ≡ answer_of other b r3
    → outcome q.a2 q4 other2 ≡ answer_of other1 a r4
    → BothOrders one other a b r1 r2 r3 r4 q q1 q2 q3 q4 one2 other2
crossed {one} {other} {a} {b} {r1} {r2} {r3} {r4} {q1} {q2} {q3} {q4} {one1} {one2} {other1} {other2} q oa ob e1 e2 e3 e4 =
    let f1 : outcome q.a1 q1 (answer_of one a r1).block ≡ answer_of one a r1 =
    sym (ap (λ (o : Outcome). outcome q.a1 q1 o.block) e1) ∙ e1 in
    let f3 : outcome q.b1 q3 (answer_of other b r3).block ≡ answer_of other b r3 =
    sym (ap (λ (o : Outcome). outcome q.b1 q3 o.block) e3) ∙ e3 in
    let f2 : outcome q.b2 q2 one2 ≡ answer_of (answer_of one a r1).block b r2 = e2 ∙ ap (λ (o : Outcome). answer_of o.block b r2) e1 in
    let f4 : outcome q.a2 q4 other2 ≡ answer_of (answer_of other b r3).block a r4 = e4 ∙ ap (λ (o : Outcome). answer_of o.block a r4) e3 in
    record {
      first_a = f1;
      second_b = f2;
      first_b = f3;
      second_a = f4;
      agree =
          λ x.
          rw (f1, f2, f3, f4, x.copies)
          (order one a b r1 r2 r3 r4 x.legal_block (readable a oa x.readable_a) (readable b ob x.readable_b) x.apart x.room_1 x.room_2 x.room_3 x.room_4);
    }

-- so no constant results will do: a short room's call says 1, and under the premises all four say 0
pub short-told : {one other a b r1 r2 r3 r4 q1 q2 q3 q4 one2 other2 : List ℕ} {q : FourCalls}
    → BothOrders one other a b r1 r2 r3 r4 q q1 q2 q3 q4 one2 other2 → length r1 < most_octets → q.a1.number ≡ 1
short-told {one} {other} {a} {b} {r1} t h = ap (λ (o : Outcome). o.number) (t.first_a ∙ sym (room-short one a r1 h))
