-- `console::frames::frames_of` meets its contract. The invariant: the frames found, before those that are left, are the whole. Assumes nothing.
use Rattle.console.proofs.BatchLaws.{Sofar}
use Rattle.console.proofs.frames.frames_of.Given as goal

abbrev pub invariant-loop-n : goal.invariant-loop-n
invariant-loop-n l = Sofar l.batch l.spans l.n l.at
