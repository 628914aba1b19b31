-- `tally::scan` meets its contract: the rest of the pass from here gives the whole pass. Assumes nothing.
use Rattle.std.proofs.Common.{◌≡◌, drop}
use Rattle.tally.specs.Scan.{scan_from, scanned}
use Rattle.tally.proofs.scan.Given as goal

abbrev pub invariant-loop-i : goal.invariant-loop-i
invariant-loop-i l = scan_from l.sought l.i l.s (drop l.i l.cases) ≡ scanned l.sought l.cases
