-- `refbridge::resets::rb_reset` meets its contract: a block that is not legal is refused. Assumes nothing.
use mathlib.Core.Path.{◌≡◌, sym, ◌∙◌}
use mathlib.Core.Bool.{true, false}
use Rattle.block.specs.Valid.{legal}
use Rattle.refbridge.proofs.resets.rb_reset.Goals as goal

pub returns-then-not-is_legal : goal.returns-then-not-is_legal
returns-then-not-is_legal c =
    let t = c.is_legal in
    let b = c.args.block.now in
    let l : legal b ≡ false = sym t.ensures ∙ c.if-not-is_legal.true in
    (rw (c.refused.ensures, l), rw c.refused.ensures, rw c.refused.ensures, rw l)

pub reset-requires : goal.reset-requires
reset-requires c = let t = c.is_legal in sym t.ensures ∙ c.if-not-is_legal.false

pub returns : goal.returns
returns c =
    let d = c.before.before.before.before in
    let t = d.is_legal in
    let b = d.args.block.now in
    let l : legal b ≡ true = sym t.ensures ∙ d.if-not-is_legal.false in
    (rw (c.numbered.ensures, l), rw c.numbered.ensures, rw c.numbered.ensures, rw l d.reset.ensures)
