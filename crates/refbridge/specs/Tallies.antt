-- What `rb_tally_event` leaves (request E1), as a run of `crates/tally/specs/Run.antt`. Assumes nothing.
use Rattle.std.specs.Prelude.{ℕ, List}
use Rattle.tally.specs.Run.{Fed}
use Rattle.tally.specs.declared.RbCase.{RbCase}
use Rattle.refbridge.specs.declared.RbResult.{RbResult}

-- a result's number, with the cases and the mark afterwards
abbrev pub fed_by : RbResult → List RbCase → (mark : ℕ) → Fed
fed_by r cases mark = record { number = r.number; cases = cases; mark = mark }
