-- The exit status of a program, by how its run ended.
use Rattle.std.specs.Prelude.{ℕ, Result, Ok, Err}
use Rattle.run_parts.specs.declared.errors.RunError.{RunError}
use Rattle.run_parts.specs.declared.runs.Status.{Status}
use Rattle.run_parts.specs.declared.runs.Status.TheVariants.{Good, Bad, Refused}

abbrev pub status_code : Status → ℕ
status_code Good = 0
status_code Bad = 1
status_code Refused = 2

-- the same of a run that may have no whole report
abbrev pub exit_code : Result Status RunError → ℕ
exit_code (Ok status) = status_code status
exit_code (Err error) = 2
