use Prim.Native.Nat.{ℕ, ◌+◌, ◌<◌}
use mathlib.Core.Path.{◌≡◌, sym, ◌∙◌}
use mathlib.Core.Bool.{Bool, true, false, ◌||◌}
use mathlib.Core.List.{List}
use native.Mathlib.Omega.{arith}
use lib.ListN.{length, get_or, drop}
use Rattle.octets.specs.Parts.{part, same}
use Rattle.octets.proofs.NumberLaws.{Octets}
use Rattle.message.specs.Request.{no_binding}
use Rattle.message.specs.declared.request.Binding.{Binding}
use Rattle.answer.specs.Judge.{among}
use Rattle.verdict.specs.Kept.{named_before, Stands, AllStand}
use Rattle.verdict.proofs.judge.AskedLaws.{same_names}
use Rattle.verdict.proofs.judge.JudgedLaws.{name_of, names_of, among-turn, among-end}
use Rattle.verdict.proofs.judge.named_before.Goals as goal

-- what a turn makes of the answer
module _ (s : List ℕ) (es : List Binding) (b : Binding) (j : ℕ) (w : AllStand s es) (v : Stands s b) (o : Octets s) (h : j < length es) where
  abbrev e : Binding
  e = get_or es j no_binding

  turn : (t : Bool) → same (part s b.name b.size) (part s e.name e.size) ≡ t → named_before s es b ≡ among (name_of s b) (drop j (names_of s es))
      → named_before s es b ≡ (t || among (name_of s b) (drop (j + 1) (names_of s es)))
  turn t told so =
      let r : same (name_of s b) (name_of s e) ≡ t = same_names s b e o v (w.each j no_binding h) ∙ told in
      so ∙ among-turn s es (name_of s b) j h ∙ rw r

-- what the comparison says of the two names
compared : (s : List ℕ) (b e : Binding) {x y : List ℕ} {r t : Bool} → r ≡ same x y → r ≡ t → x ≡ part s b.name b.size → y ≡ part s e.name e.size
    → same (part s b.name b.size) (part s e.name e.size) ≡ t
compared s b e told so name other = rw (← name, ← other) (sym told ∙ so)

pub name_of-name-requires : goal.name_of-name-requires
name_of-name-requires c = c.requires.1.named

pub name_of-requires : goal.name_of-requires
name_of-requires c = (c.requires.0.each c.loop-e.e-index no_binding c.loop-e-test.true).named

pub returns-then-same_octets : goal.returns-then-same_octets
returns-then-same_octets c =
    let a = c.args in
    sym (turn a.request.now a.earlier.now a.b c.loop-e.e-index c.requires.0 c.requires.1 (λ k. omega (arith, c.type_inv.request k)) c.loop-e-test.true true
    (compared a.request.now a.b (get_or a.earlier.now c.loop-e.e-index no_binding) c.same_octets.ensures c.if-same_octets.true c.name_of-name.ensures c.name_of.ensures)
    c.loop-e.invariant)

pub loop-e-preserved : goal.loop-e-preserved
loop-e-preserved c =
    let a = c.args in
    turn a.request.now a.earlier.now a.b c.loop-e.e-index c.requires.0 c.requires.1 (λ k. omega (arith, c.type_inv.request k)) c.loop-e-test.true false
    (compared a.request.now a.b (get_or a.earlier.now c.loop-e.e-index no_binding) c.same_octets.ensures c.if-same_octets.false c.name_of-name.ensures c.name_of.ensures)
    c.loop-e.invariant

pub returns : goal.returns
returns c = sym (c.loop-e.invariant ∙ among-end c.args.request.now c.args.earlier.now _ c.loop-e.e-index c.loop-e-test.false)
