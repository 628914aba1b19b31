-- `console::header::read_header` meets its contract. The invariant: the run of the whole chunk is the run of the octets left, from the position that is reached. Assumes nothing.
use Rattle.std.specs.Prelude.{◌≡◌, ◌≤◌, ◌<◌, drop}
use Rattle.console.specs.Positions.{moved, heading_of}
use Rattle.console.specs.Frames.{inside, run}
use Rattle.console.proofs.header.read_header.Given as goal

abbrev pub invariant-loop-i : goal.invariant-loop-i
invariant-loop-i l =
    (l.at.count ≤ 4) × (l.at.size < 65536) × (l.i ≤ l.at.count)
    × (run l.chunk (inside (heading_of l.fn.from)) ≡ moved l.i (run (drop l.i l.chunk) (inside (heading_of l.at))))
