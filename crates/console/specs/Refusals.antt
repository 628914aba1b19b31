-- The numbers that end a stream or a batch (paper 02, E7 and E10). Assumes nothing.
use Rattle.std.specs.Prelude.{ℕ, Result, Ok, Err, ⊤}
use Rattle.console.specs.declared.refusals.StreamRefused.{StreamRefused}
use Rattle.console.specs.declared.refusals.StreamRefused.TheVariants.{HeaderWrong, LengthOver, TooManyFrames}

-- "21 wrong header or inner length", "22 length over 1,472", "23 for any octet after 64 frames"
abbrev pub number_of : StreamRefused → ℕ
number_of HeaderWrong = 21
number_of LengthOver = 22
number_of TooManyFrames = 23

-- a refusal's number, and 0 where there is none
abbrev pub number_in : Result ⊤ StreamRefused → ℕ
number_in (Ok u) = 0
number_in (Err r) = number_of r
