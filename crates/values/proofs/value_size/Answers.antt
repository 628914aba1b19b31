-- `values::value_size` meets its contract: by the syntax of the object. Assumes nothing.
use mathlib.Core.Logic.{◌⊎◌, inl, inr}
use mathlib.Core.Bool.{true}
use mathlib.Core.Path.{◌≡◌, refl, sym}
use Rattle.names.specs.Table.{object_at}
use Rattle.names.specs.declared.table.Syntax.{Syntax}
use Rattle.names.specs.declared.table.Syntax.TheVariants.{Integer, Text, Unsigned, Counter, Ports}
use Rattle.block.specs.Image.{content_of}
use Rattle.block.proofs.RoundLaws.{legal-sized}
use Rattle.values.proofs.ValueLaws.{is_number, number_size, ports-size}
use Rattle.instances.proofs.SearchLaws.{legal-ports}
use borrow.Author.Rules.{rules}
use Rattle.names.specs.declared.table.ObjectType.{ObjectType}
use Rattle.values.proofs.value_size.Goals as goal

-- the syntax of the object
written : (o p : ObjectType) (x : Syntax) → o ≡ p → o.syntax ≡ x → p.syntax ≡ x
written o p x e f = rw (← e) f

numbers : (x : Syntax) → (x ≡ Integer) ⊎ (x ≡ Unsigned) ⊎ (x ≡ Counter) → is_number x ≡ true
numbers x (inl e) = rw e
numbers x (inr (inl e)) = rw e
numbers x (inr (inr e)) = rw e

pub text_size-requires : goal.text_size-requires
text_size-requires c = let e = written _ (object_at c.args.x.place) Text c.object.ensures c.in-Text.is in search rules

pub ports-requires : goal.ports-requires
ports-requires c = (legal-sized _ c.requires.0).long

pub returns-in-Integer : goal.returns-in-Integer
returns-in-Integer c =
    let number : is_number (object_at c.args.x.place).syntax ≡ true = rw c.object.ensures at (numbers c.object.result.syntax c.in-Integer.is) in
    sym (number_size (content_of c.args.block.now) c.args.x.key c.args.x.place c.requires.1.0 (object_at c.args.x.place).syntax refl number)

pub returns-in-Ports : goal.returns-in-Ports
returns-in-Ports c =
    let few = (legal-ports c.args.block.now c.requires.0).1 in
    let e = written _ (object_at c.args.x.place) Ports c.object.ensures c.in-Ports.is in
    rw c.ports.ensures (sym (ports-size (content_of c.args.block.now) c.args.x.key c.args.x.place c.requires.1.0 few e))
