-- `reset::cut` meets its contract. Assumes nothing.
use mathlib.Core.Path.{◌≡◌, ◌∙◌}
use lib.ListN.{length}
use Rattle.block.proofs.ChangeLaws.{image-statics, image-static-cut}
use Rattle.reset.proofs.cut.Goals as goal

pub returns : goal.returns
returns c k s h e =
    let a = c.args in
    let n : c.row_count-n.result ≡ length k.statics = c.row_count-n.ensures ∙ image-statics s e in
    rw (c.put_be4.ensures, c.clear.ensures, n, e) (image-static-cut s a.kept h)
