-- `legality::vlan_ok` meets its contract. Assumes nothing.
use mathlib.Core.Path.{◌≡◌, sym, ◌∙◌}
use mathlib.Core.Bool.{◌||◌, and-false}
use Prim.Native.Nat.{◌+◌, ◌-◌}
use native.Mathlib.Omega.{arith}
use lib.Dec.{eqb}
use lib.ListN.{get_or}
use Rattle.legality.proofs.LegalLaws.{vlan-tests}
use Rattle.legality.proofs.vlan_ok.Goals as goal

pub overflow_cast-block : goal.overflow_cast-block
overflow_cast-block c = omega (arith, c.type_inv.block (c.args.at + 3))

pub returns-then-not-name_ok : goal.returns-then-not-name_ok
returns-then-not-name_ok c =
    let a = c.args in
    let k : 32 ≡ a.at + 36 - (a.at + 4) = omega arith in
    sym
    (vlan-tests a.m a.block.now a.at
    ∙ rw (k, ← c.name_ok.ensures, c.if-not-name_ok.true) (and-false (eqb (get_or a.block.now (a.at + 2) 0) 1 || eqb (get_or a.block.now (a.at + 2) 0) 2)))

pub returns : goal.returns
returns c =
    let a = c.args in
    let k : 32 ≡ a.at + 36 - (a.at + 4) = omega arith in
    sym
    (vlan-tests a.m a.block.now a.at
    ∙ rw (
      k,
      ← c.name_ok.ensures,
      c.if-not-name_ok.false,
      ← c.be8-egress.ensures,
      ← c.be8-forbidden.ensures,
      ← c.be8-untagged.ensures,
      ← c.sets_ok.ensures,
      ← c.are_disjoint.ensures,
    ))
