-- `verdict::faults::full_in` meets its contract. Assumes nothing.
use Rattle.verdict.proofs.faults.full_in.Goals as goal

pub returns : goal.returns
returns g c n s = rw (c.is_full-3.ensures n s, c.is_full-2.ensures n s, c.is_full.ensures n s)
