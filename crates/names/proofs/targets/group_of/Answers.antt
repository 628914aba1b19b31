-- `names::targets::group_of` meets its contract: each arm is computed from the object table, and every object without an arm is the first of its group. Assumes nothing.
use mathlib.Core.Path.{sym}
use Rattle.octets.specs.Parts.{same}
use Rattle.names.specs.Table.{objects}
use Rattle.names.specs.Groups.{table_from, table_of}
use Rattle.names.proofs.GroupLaws.{first_alone}
use Rattle.names.proofs.targets.group_of.Goals as goal

pub returns-in-4 : goal.returns-in-4
unfolding table_of table_from objects same
returns-in-4 c = rw c.in-4.is

pub returns-in-7 : goal.returns-in-7
unfolding table_of table_from objects same
returns-in-7 c = rw c.in-7.is

pub returns-in-8 : goal.returns-in-8
unfolding table_of table_from objects same
returns-in-8 c = rw c.in-8.is

pub returns-in-10 : goal.returns-in-10
unfolding table_of table_from objects same
returns-in-10 c = rw c.in-10.is

pub returns-in-11 : goal.returns-in-11
unfolding table_of table_from objects same
returns-in-11 c = rw c.in-11.is

pub returns-in-12 : goal.returns-in-12
unfolding table_of table_from objects same
returns-in-12 c = rw c.in-12.is

pub returns-in-15 : goal.returns-in-15
unfolding table_of table_from objects same
returns-in-15 c = rw c.in-15.is

pub returns-in-16 : goal.returns-in-16
unfolding table_of table_from objects same
returns-in-16 c = rw c.in-16.is

pub returns-in-17 : goal.returns-in-17
unfolding table_of table_from objects same
returns-in-17 c = rw c.in-17.is

pub returns-in-20 : goal.returns-in-20
unfolding table_of table_from objects same
returns-in-20 c = rw c.in-20.is

pub returns-in-21 : goal.returns-in-21
unfolding table_of table_from objects same
returns-in-21 c = rw c.in-21.is

pub returns-in-22 : goal.returns-in-22
unfolding table_of table_from objects same
returns-in-22 c = rw c.in-22.is

pub returns-in-24 : goal.returns-in-24
unfolding table_of table_from objects same
returns-in-24 c = rw c.in-24.is

pub returns-in-33 : goal.returns-in-33
unfolding table_of table_from objects same
returns-in-33 c = rw c.in-33.is

pub returns-in-34 : goal.returns-in-34
unfolding table_of table_from objects same
returns-in-34 c = rw c.in-34.is

pub returns-in-35 : goal.returns-in-35
unfolding table_of table_from objects same
returns-in-35 c = rw c.in-35.is

pub returns-in-36 : goal.returns-in-36
unfolding table_of table_from objects same
returns-in-36 c = rw c.in-36.is

pub returns-in-38 : goal.returns-in-38
unfolding table_of table_from objects same
returns-in-38 c = rw c.in-38.is

pub returns-in-39 : goal.returns-in-39
unfolding table_of table_from objects same
returns-in-39 c = rw c.in-39.is

pub returns-in_default : goal.returns-in_default
returns-in_default c = sym (first_alone c.args.place c.requires c.in_default.in_default-own.rest)
