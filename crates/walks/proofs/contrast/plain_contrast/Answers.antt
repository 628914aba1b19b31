-- `walks::contrast::plain_contrast` meets its contract. Assumes nothing.
use borrow.Author.Tests.{eq-eqb, ne_eqb}
use Rattle.walks.specs.Contrast.{plain_contrast}
use Rattle.walks.proofs.contrast.plain_contrast.Goals as goal
use Rattle.walks.proofs.contrast.plain_contrast.Goals.{else-tag-other-via-then-tag-other+else-same_octets, else-tag-other-via-else-tag-other}

pub returns-then-same_octets : goal.returns-then-same_octets
unfolding plain_contrast
returns-then-same_octets c = rw (eq-eqb _ _ c.if-tag-other.true, ← c.same_octets.ensures, c.if-same_octets.true)

pub returns : goal.returns
unfolding plain_contrast
returns c =
    elim c.else-tag-other.branch [
      | else-tag-other-via-then-tag-other+else-same_octets w ↦ rw (eq-eqb _ _ w.if-tag-other.true, ← w.same_octets.ensures, w.if-same_octets.false)
      | else-tag-other-via-else-tag-other w ↦ rw (ne_eqb _ _ w.if-tag-other.false)
    ]
