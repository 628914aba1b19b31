-- `console::take_header` meets its contract: refused, within a message, or used up. Assumes nothing.
use Rattle.console.proofs.CallLaws.{head-refused, head-used}
use Rattle.console.proofs.HeaderLaws.{head-as}
use Rattle.console.proofs.take_header.Goals as goal

pub returns-in-Err : goal.returns-in-Err
returns-in-Err c = head-refused _ _ _ _ (head-as c.in-Err.is c.read_header-h.ensures) c.from-number.ensures c.put_bare.ensures

pub returns-else-p-eq-HEADER_OCTETS : goal.returns-else-p-eq-HEADER_OCTETS
returns-else-p-eq-HEADER_OCTETS c =
    head-used _ _ _ _ (head-as c.in-Ok.is c.read_header-h.ensures) c.if-p-eq-HEADER_OCTETS.false c.put_bare-in-Ok.ensures
