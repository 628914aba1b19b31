-- `walks::turn::put_twenty` meets its contract: four octets and two numbers, one behind the other, are one patch. Assumes nothing.
use mathlib.Core.Path.{refl}
use Rattle.walks.proofs.CodeLaws.{twenty-put}
use Rattle.walks.proofs.turn.put_twenty.Goals as goal

pub returns : goal.returns
returns c =
    let a = c.args in
    (refl, cc (twenty-put a.list.now a.at a.kind a.c a.reference a.device c.requires))
