use mathlib.Core.Path.{◌≡◌, refl, ap, sym, ◌∙◌}
use Prim.Native.Nat.{ℕ}
use native.Mathlib.Numerals.{add-one}
use native.Mathlib.Omega.{arith}
use lib.ListN.{take, length-set}
use lib.Seq.{take-suc-set, take_all}
use Rattle.block.specs.Cells.{map_from}
use Rattle.block.specs.Image.{content_of}
use Rattle.block.proofs.MapLaws.{map_more}
use Rattle.block.proofs.maps.rows_from.Goals as goal

pub loop-i-init : goal.loop-i-init
unfolding map_from
loop-i-init c = (refl, refl)

pub loop-i-preserved : goal.loop-i-preserved
loop-i-preserved c =
    let l = c.loop-i in
    let a = c.args in (
      rw length-set l.invariant.0,
      rw (map_more (content_of a.block.now).cells a.k l.i, add-one, take-suc-set l.rows l.i c.eight.result (omega arith), l.invariant.1, c.eight.ensures),
    )

pub returns : goal.returns
returns c =
    let l = c.loop-i in
    let a = c.args in
    let e : l.i ≡ 64 = omega arith in
    sym (take_all 64 l.rows (omega arith)) ∙ ap (λ (n : ℕ). take n l.rows) (sym e) ∙ l.invariant.1 ∙ ap (λ (n : ℕ). map_from (content_of a.block.now).cells a.k n) e
