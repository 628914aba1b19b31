-- The number of a set-up (paper 01, "The block"). Assumes nothing.
use Rattle.std.specs.Prelude.{ℕ, Result, Ok, Err}
use Rattle.changes.specs.declared.setup.SetUpRefused.{SetUpRefused}

-- refusal 9
abbrev pub set_up_number : Result (Unit {0}) SetUpRefused → ℕ
set_up_number (Ok done) = 0
set_up_number (Err e) = 9
