-- The numbers of faults (paper 01, "Set"). Assumes nothing.
use Rattle.std.specs.Prelude.{ℕ, Result, Ok, Err}
use Rattle.answer.specs.declared.faults.Fault.{Fault}
use Rattle.answer.specs.declared.faults.Fault.TheVariants.{GenErr, WrongType, WrongLength, WrongValue, NoCreation, InconsistentValue, ResourceUnavailable, NotWritable, InconsistentName}

abbrev pub number_of : Fault → ℕ
number_of GenErr = 5
number_of WrongType = 7
number_of WrongLength = 8
number_of WrongValue = 10
number_of NoCreation = 11
number_of InconsistentValue = 12
number_of ResourceUnavailable = 13
number_of NotWritable = 17
number_of InconsistentName = 18

-- the number of a fault that may be there: 0 where there is none
abbrev pub fault_in : {A : Type 0} → Result A Fault → ℕ
fault_in (Ok a) = 0
fault_in (Err f) = number_of f
