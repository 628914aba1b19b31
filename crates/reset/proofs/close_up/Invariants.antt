-- `reset::close_up` meets its contract. The invariant: the first i rows were looked at, and those that stay are written. Assumes nothing.
use mathlib.Core.Path.{◌≡◌}
use lib.ListN.{length, take}
use Rattle.block.specs.Image.{image, content_of}
use Rattle.reset.specs.Reset.{stay}
use Rattle.reset.proofs.ResetLaws.{turned}
use Rattle.reset.proofs.close_up.Given as goal

abbrev pub invariant-loop-i : goal.invariant-loop-i
invariant-loop-i l =
    (length l.block ≡ length l.initial.block) × (l.kept ≡ length (stay (take l.i (content_of l.initial.block).statics))) × (l.block ≡ image (turned (content_of l.initial.block) l.i))
