-- `verdict::judge::said_by` meets its contract. Assumes nothing.
use Prim.Native.Nat.{ℕ, ◌<◌}
use mathlib.Core.Path.{◌≡◌, refl}
use mathlib.Core.List.{List}
use mathlib.Core.Bool.{true, false}
use native.Mathlib.Omega.{arith}
use lib.Dec.{eqb}
use Rattle.octets.specs.Numbers.{be_at}
use Rattle.octets.specs.Parts.{part}
use Rattle.octets.proofs.PartLaws.{part_length}
use Rattle.names.specs.Table.{object_count, object_at}
use Rattle.names.specs.declared.model.Model.{Model}
use Rattle.names.specs.declared.table.Syntax.{Syntax}
use Rattle.message.specs.declared.request.Binding.{Binding}
use Rattle.answer.specs.Judge.{tag_of, is_writable, content_said}
use Rattle.verdict.specs.Kept.{content_said_of, said_number, Stands}
use Rattle.verdict.proofs.judge.SaidLaws.{read_only, wrong_type, too_long, named, ports-said, number-said}
use Rattle.verdict.proofs.judge.AskedLaws.{number-in-part, four-octets, brief}
use Rattle.verdict.proofs.judge.said_by.Goals as goal

-- a number's tag is not that of a string, so that its content has four octets
module _ (s : List ℕ) (i : ℕ) (b : Binding) (w : Stands s b) {y : Syntax} (kind : (object_at i).syntax ≡ y) (number : eqb (tag_of y) 0x22 ≡ false) (typed : b.tag ≡ tag_of (object_at i).syntax) where
  no-string : eqb b.tag 0x22 ≡ false
  no-string = rw (typed, kind) number

  four : b.len ≡ 4
  four = four-octets s b w no-string

  number_read : (m : Model) → i < object_count → is_writable (object_at i).access ≡ true
      → content_said_of i (part s b.content b.len) (said_number m.edition i (be_at s b.content 4)) ≡ content_said m i b.tag (part s b.content b.len)
  number_read m small writable =
      rw (← number-in-part s b.content b.len w.filled 4 (omega (arith, four)))
      (number-said _ _ _ _ writable typed small no-string)

pub returns-then-not-is_writable : goal.returns-then-not-is_writable
returns-then-not-is_writable c =
    (read_only _ _ _ _
    (rw (← c.object-o.ensures, ← c.is_writable.ensures) c.if-not-is_writable.true))

pub returns-then-b-tag_of : goal.returns-then-b-tag_of
returns-then-b-tag_of c =
    (wrong_type _ _ _ _
    (rw (← c.object-o.ensures, ← c.is_writable.ensures) c.if-not-is_writable.false)
    (rw (← c.object-o.ensures, ← c.tag_of.ensures) c.if-b-tag_of.true))

pub overflow_cast-b : goal.overflow_cast-b
overflow_cast-b c = omega (arith, brief c.args.request.now c.args.b c.requires.3)

pub returns-then-o-b : goal.returns-then-o-b
returns-then-o-b c =
    let a = c.args in
    (too_long _ _ _ _
    (rw (← c.object-o.ensures, ← c.is_writable.ensures) c.if-not-is_writable.false)
    (rw (← c.object-o.ensures, ← c.tag_of.ensures) c.if-b-tag_of.false)
    (rw (← c.object-o.ensures) c.in-Text.is)
    (rw (part_length a.request.now a.b.content a.b.len c.requires.3.filled, ← c.object-o.ensures) (omega arith)))

pub returns-else-o-b : goal.returns-else-o-b
returns-else-o-b c =
    let a = c.args in
    (named _ _ _ _
    (rw (← c.object-o.ensures, ← c.is_writable.ensures) c.if-not-is_writable.false)
    (rw (← c.object-o.ensures, ← c.tag_of.ensures) c.if-b-tag_of.false)
    c.requires.2
    (rw (← c.object-o.ensures) c.in-Text.is)
    (rw (part_length a.request.now a.b.content a.b.len c.requires.3.filled, ← c.object-o.ensures) (omega arith)))

pub returns-in-Ports : goal.returns-in-Ports
returns-in-Ports c =
    rw c.said_ports.ensures (ports-said _ _ _ _
    (rw (← c.object-o.ensures, ← c.is_writable.ensures) c.if-not-is_writable.false)
    (rw (← c.object-o.ensures, ← c.tag_of.ensures) c.if-b-tag_of.false)
    c.requires.2
    (rw (← c.object-o.ensures) c.in-Ports.is))

pub be4-requires : goal.be4-requires
be4-requires c =
    let a = c.args in
    let k : (object_at a.i).syntax ≡ Syntax.Integer = rw (← c.object-o.ensures) c.in-Integer.is in
    let y : a.b.tag ≡ tag_of (object_at a.i).syntax = rw (← c.object-o.ensures, ← c.tag_of.ensures) c.if-b-tag_of.false in
    omega (arith, four a.request.now a.i a.b c.requires.3 k refl y, c.requires.3.filled)

pub returns-in-Integer : goal.returns-in-Integer
returns-in-Integer c =
    let a = c.args in
    let k : (object_at a.i).syntax ≡ Syntax.Integer = rw (← c.object-o.ensures) c.in-Integer.is in
    let y : a.b.tag ≡ tag_of (object_at a.i).syntax = rw (← c.object-o.ensures, ← c.tag_of.ensures) c.if-b-tag_of.false in
    rw (c.said_number.ensures, c.be4.ensures) (number_read a.request.now a.i a.b c.requires.3 k refl y a.m c.requires.2
    (rw (← c.object-o.ensures, ← c.is_writable.ensures) c.if-not-is_writable.false))

pub be4-requires-in-Unsigned : goal.be4-requires-in-Unsigned
be4-requires-in-Unsigned c =
    let a = c.args in
    let k : (object_at a.i).syntax ≡ Syntax.Unsigned = rw (← c.object-o.ensures) c.in-Unsigned.is in
    let y : a.b.tag ≡ tag_of (object_at a.i).syntax = rw (← c.object-o.ensures, ← c.tag_of.ensures) c.if-b-tag_of.false in
    omega (arith, four a.request.now a.i a.b c.requires.3 k refl y, c.requires.3.filled)

pub returns-in-Unsigned : goal.returns-in-Unsigned
returns-in-Unsigned c =
    let a = c.args in
    let k : (object_at a.i).syntax ≡ Syntax.Unsigned = rw (← c.object-o.ensures) c.in-Unsigned.is in
    let y : a.b.tag ≡ tag_of (object_at a.i).syntax = rw (← c.object-o.ensures, ← c.tag_of.ensures) c.if-b-tag_of.false in
    rw (c.said_number-in-Unsigned.ensures, c.be4-in-Unsigned.ensures) (number_read a.request.now a.i a.b c.requires.3 k refl y a.m c.requires.2
    (rw (← c.object-o.ensures, ← c.is_writable.ensures) c.if-not-is_writable.false))

pub be4-requires-in-Counter : goal.be4-requires-in-Counter
be4-requires-in-Counter c =
    let a = c.args in
    let k : (object_at a.i).syntax ≡ Syntax.Counter = rw (← c.object-o.ensures) c.in-Counter.is in
    let y : a.b.tag ≡ tag_of (object_at a.i).syntax = rw (← c.object-o.ensures, ← c.tag_of.ensures) c.if-b-tag_of.false in
    omega (arith, four a.request.now a.i a.b c.requires.3 k refl y, c.requires.3.filled)

pub returns-in-Counter : goal.returns-in-Counter
returns-in-Counter c =
    let a = c.args in
    let k : (object_at a.i).syntax ≡ Syntax.Counter = rw (← c.object-o.ensures) c.in-Counter.is in
    let y : a.b.tag ≡ tag_of (object_at a.i).syntax = rw (← c.object-o.ensures, ← c.tag_of.ensures) c.if-b-tag_of.false in
    rw (c.said_number-in-Counter.ensures, c.be4-in-Counter.ensures) (number_read a.request.now a.i a.b c.requires.3 k refl y a.m c.requires.2
    (rw (← c.object-o.ensures, ← c.is_writable.ensures) c.if-not-is_writable.false))
