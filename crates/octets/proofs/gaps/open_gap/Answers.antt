-- `octets::gaps::open_gap` meets its contract. Assumes nothing.
use Rattle.octets.proofs.GapLaws.{opened-moved}
use Rattle.octets.proofs.gaps.open_gap.Goals as goal

pub returns : goal.returns
returns c =
    let a = c.args in
    cc (opened-moved a.s.now a.from a.to a.w c.requires.0 c.requires.1, c.copy_within.ensures.after, c.clear.ensures)
