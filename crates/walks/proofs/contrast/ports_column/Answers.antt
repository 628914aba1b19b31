-- `walks::contrast::ports_column` meets its contract: by the object type that is a prefix of the name. Assumes nothing.
use Rattle.walks.proofs.ContrastLaws.{place-fits, column-is, column-is-not, column-unknown}
use Rattle.walks.proofs.contrast.ports_column.Goals as goal

pub object-requires : goal.object-requires
object-requires c = place-fits _ _ c.type_of.ensures c.in-Some.is

pub returns-in-Ports : goal.returns-in-Ports
returns-in-Ports c = column-is _ _ c.type_of.ensures c.in-Some.is c.object.ensures c.in-Ports.is

pub returns-in_default : goal.returns-in_default
returns-in_default c = column-is-not _ _ c.type_of.ensures c.in-Some.is c.object.ensures c.in_default.not-Ports

pub returns-in-None : goal.returns-in-None
returns-in-None c = column-unknown _ c.type_of.ensures c.in-None.is
