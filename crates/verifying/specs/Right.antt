-- What the parts of `accept` answer. Only private contracts and proofs use this.
use Rattle.std.specs.Prelude.{◌≢◌, ℕ, List, Result, Ok, Err}
use Rattle.plan_core.specs.Contents.{Contents}
use Rattle.plan_core.specs.Limits.{IsWithinLimits}
use Rattle.plan_text.specs.declared.errors.PlanError.TheVariants as plan_error
use Rattle.plan_text.specs.Grammar as plans
use Rattle.plan_text.specs.Refusals as refusals
use Rattle.cert_check.specs.Accepts.{IsAnswer}
use Rattle.cert_check.specs.declared.answers.Answer.{Answer}
use Rattle.verifying.specs.declared.acceptance.AcceptError.{AcceptError}
use Rattle.verifying.specs.declared.acceptance.AcceptError.TheVariants.{Plan, NoMemory}

-- the bytes spell a plan, and the certificate is answered so
pub record IsAnswered (plan_bytes cert_bytes : List ℕ) (answer : Answer) : Type 0 where
  pub plan : Contents
  pub spelled : plans.Spells plan_bytes plan
  pub limits : IsWithinLimits plan
  pub right : IsAnswer plan cert_bytes answer

abbrev pub IsRight : List ℕ → List ℕ → Result Answer AcceptError → Type 0
IsRight plan_bytes cert_bytes (Ok answer) = IsAnswered plan_bytes cert_bytes answer
IsRight plan_bytes cert_bytes (Err (Plan e)) = refusals.First plan_bytes e × (e ≢ plan_error.NoMemory)
IsRight plan_bytes cert_bytes (Err NoMemory) = Unit {0}
