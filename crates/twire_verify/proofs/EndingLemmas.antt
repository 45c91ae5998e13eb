-- The exit status of a run, and its refusal.
use Rattle.std.proofs.Common.{◌≡◌, ℕ, Result, Ok, Err, Option, IfOk, IfErr, IfSome, IfNone, refl, sym, subst}
use Rattle.std.specs.Result.{result_err}
use Rattle.run_parts.specs.Statuses.{status_code, exit_code}
use Rattle.run_parts.specs.declared.errors.RunError.{RunError}
use Rattle.run_parts.specs.declared.runs.Status.{Status}

reports : (ended : Result Status RunError) (P : Status → Type 0) → IfOk ended P → IfNone (result_err ended) ((status : Status) × (exit_code ended ≡ status_code status) × P status)
reports (Ok status) P h = (status, refl, h)
reports (Err error) P h = tt

stops : (ended : Result Status RunError) (P : RunError → Type 0) → IfErr ended P → IfSome (result_err ended) (λ error. (exit_code ended ≡ 2) × P error)
stops (Ok status) P h = tt
stops (Err error) P h = (refl, h)

pub code_reports : (ended : Result Status RunError) (P : Status → Type 0) (code : ℕ) (refused : Option RunError) → code ≡ exit_code ended → refused ≡ result_err ended → IfOk ended P → IfNone refused ((status : Status) × (code ≡ status_code status) × P status)
code_reports ended P code refused same why h =
    subst (λ (c : ℕ). IfNone refused ((status : Status) × (c ≡ status_code status) × P status)) (sym same)
    (subst (λ (r : Option RunError). IfNone r ((status : Status) × (exit_code ended ≡ status_code status) × P status)) (sym why) (reports ended P h))

pub code_stops : (ended : Result Status RunError) (P : RunError → Type 0) (code : ℕ) (refused : Option RunError) → code ≡ exit_code ended → refused ≡ result_err ended → IfErr ended P → IfSome refused (λ error. (code ≡ 2) × P error)
code_stops ended P code refused same why h =
    subst (λ (c : ℕ). IfSome refused (λ error. (c ≡ 2) × P error)) (sym same)
    (subst (λ (r : Option RunError). IfSome r (λ error. (exit_code ended ≡ 2) × P error)) (sym why) (stops ended P h))
