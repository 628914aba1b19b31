-- Laws of `specs/Contrast.antt`. Assumes nothing.
use Prim.Native.Nat.{ℕ, ◌≤◌, ◌<◌}
use mathlib.Core.Path.{◌≡◌, refl, sym, ap, ◌∙◌}
use mathlib.Core.List.{List}
use mathlib.Core.Bool.{true, false, ◌&&◌}
use native.Mathlib.Omega.{arith}
use lib.ListN.{length, take, drop}
use lib.Seq.{take_all}
use lib.Dec.{leb, eqb}
use borrow.Author.Tests.{leb-true}
use Rattle.octets.proofs.BoolLaws.{both}
use Rattle.std.specs.Prelude.{Option, Some, None}
use Rattle.names.specs.Index.{answered}
use Rattle.names.specs.Table.{place_of, object_at, object_count}
use Rattle.names.proofs.AnswerLaws.{told, told-answer}
use Rattle.names.specs.declared.table.ObjectType.{ObjectType}
use Rattle.names.specs.declared.table.Syntax.{Syntax}
use Rattle.names.specs.declared.table.Syntax.TheVariants.{Integer, Text, Unsigned, Counter, Ports}
use Rattle.names.proofs.TableLaws.{place_is}
use Rattle.walks.specs.Contrast.{is_ports, ports_place, ports_column, short_string, port_sets}

-- a place that is told is one of the table
pub place-fits : (name : List ℕ) (i : ℕ) {r : Option ℕ} → r ≡ answered (place_of name) → r ≡ Some i → i < object_count
place-fits name i e h = (place_is name i (told-answer (place_of name) e ∙ ap told h)).0

-- an object type's syntax decides whether it holds port sets
pub column-is : (name : List ℕ) (i : ℕ) {r : Option ℕ} {o : ObjectType} {z : Syntax} → r ≡ answered (place_of name) → r ≡ Some i → o ≡ object_at i → o.syntax ≡ z → is_ports z ≡ ports_column name
unfolding ports_column
column-is name i e h f g = ap is_ports (sym g ∙ ap (λ (o : ObjectType). o.syntax) f) ∙ sym (ap ports_place (told-answer (place_of name) e ∙ ap told h))

no-ports : (z : Syntax) → (z ≡ Ports → ⊥) → false ≡ is_ports z
no-ports Integer h = refl
no-ports Text h = refl
no-ports Unsigned h = refl
no-ports Counter h = refl
no-ports Ports h = absurd (h refl)

pub column-is-not : (name : List ℕ) (i : ℕ) {r : Option ℕ} {o : ObjectType} → r ≡ answered (place_of name) → r ≡ Some i → o ≡ object_at i → (o.syntax ≡ Ports → ⊥) → false ≡ ports_column name
column-is-not name i {r} {o} e h f g = no-ports o.syntax g ∙ column-is name i e h f refl

pub column-unknown : (name : List ℕ) {r : Option ℕ} → r ≡ answered (place_of name) → r ≡ None → false ≡ ports_column name
unfolding ports_column
column-unknown name e h = sym (ap ports_place (told-answer (place_of name) e ∙ ap told h))

-- both of two port sets have at most 8 octets
pub sets-short : (name : List ℕ) (tag : ℕ) (xs : List ℕ) (tag' : ℕ) (ys : List ℕ) → port_sets name tag xs tag' ys ≡ true → (length xs ≤ 8) × (length ys ≤ 8)
unfolding port_sets
sets-short name tag xs tag' ys e =
    let o = both (short_string tag (length xs) && short_string tag' (length ys)) (ports_column name) e in
    let p = both (short_string tag (length xs)) (short_string tag' (length ys)) o.0 in
    (leb-true (length xs) 8 (both (eqb tag 0x22) (leb (length xs) 8) p.0).1, leb-true (length ys) 8 (both (eqb tag' 0x22) (leb (length ys) 8) p.1).1)

-- a part that is the whole
pub whole_part : (xs : List ℕ) → take (length xs) (drop 0 xs) ≡ xs
whole_part xs = take_all (length xs) xs (omega arith)
