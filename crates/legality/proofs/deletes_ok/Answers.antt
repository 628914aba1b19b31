-- `legality::deletes_ok` meets its contract. Assumes nothing.
use native.Mathlib.Omega.{arith}
use Rattle.block.specs.Image.{content_of}
use Rattle.legality.proofs.LegalLaws.{deletes-test}
use Rattle.legality.proofs.deletes_ok.Goals as goal

pub returns : goal.returns
returns c =
    let a = c.args in
    rw (deletes-test a.device (content_of a.block.now).deletes (rw (← c.deletes.ensures) (omega arith)), ← c.deletes.ensures)
