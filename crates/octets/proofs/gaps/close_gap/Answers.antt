-- `octets::gaps::close_gap` meets its contract. Assumes nothing.
use Rattle.octets.proofs.GapLaws.{closed-moved}
use Rattle.octets.proofs.gaps.close_gap.Goals as goal

pub returns : goal.returns
returns c =
    let a = c.args in
    cc (closed-moved a.s.now a.from a.to a.w c.requires.0 c.requires.1, c.copy_within.ensures.after, c.clear.ensures)
