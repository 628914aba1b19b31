-- The numbers of refusals (request E1). Assumes nothing.
use Rattle.std.specs.Prelude.{ℕ, Result, Ok, Err}
use Rattle.tally.specs.declared.refusals.Refused.{Refused}
use Rattle.tally.specs.declared.refusals.Refused.TheVariants.{Run, Ended, Unknown, Start, Verdict}
use Rattle.tally.specs.Codes.{accepted, refused_unknown, refused_start, refused_verdict, refused_ended, refused_run}

abbrev pub number_of : Refused → ℕ
number_of Run = refused_run
number_of Ended = refused_ended
number_of Unknown = refused_unknown
number_of Start = refused_start
number_of Verdict = refused_verdict

-- the number of an answer: 0, or that of the refusal
abbrev pub number_in : {T : Type 0} → Result T Refused → ℕ
number_in (Ok x) = accepted
number_in (Err r) = number_of r
