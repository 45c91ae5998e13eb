-- The status of a run over what gives a plan, whatever form its report has.
use Rattle.std.specs.Prelude.{◌≡◌, ℕ, Bool, true, List, Option, None, Some}
use Rattle.cert_check.specs.Accepts.{IsAnswer}
use Rattle.cert_check.specs.declared.answers.Answer.{Answer}
use Rattle.plan_findings.specs.Unchecked.{IsAllChecked}
use Rattle.given_plans.specs.Sources.{GiveThePlan, ReadsTexts}
use Rattle.plan_core.specs.Contents.{Contents}
use Rattle.plan_core.specs.Faults.{IsSafe}
use Rattle.report.specs.Checks.{Judges}
use Rattle.run_parts.specs.Devices.{Reader}
use Rattle.run_parts.specs.Runs.{ReadsText}
use Rattle.run_parts.specs.declared.runs.Status.{Status}
use Rattle.run_parts.specs.declared.runs.Status.TheVariants.{Good, Bad, Refused}
use Rattle.verifying.specs.Answers.{answer_status}

-- the plan is safe for every lawful set, a strict run looks at all of it, and not more is left out than is allowed
abbrev pub IsGoodIn : Bool → Bool → Contents → Type 0
IsGoodIn strict within plan = IsSafe plan × ((strict ≡ true → IsAllChecked plan) × (within ≡ true))

-- Good where that is so, and Bad where it is not
abbrev pub JudgesIn : Bool → Bool → Status → Contents → Type 0
JudgesIn strict within Good plan = IsGoodIn strict within plan
JudgesIn strict within Bad plan = IsGoodIn strict within plan → ⊥
JudgesIn strict within Refused plan = ⊥

-- whether what is left out is within this limit: all is within none. (How many pairs are left out is counted in words of people.)
abbrev pub IsWithin : Option ℕ → Bool → Type 0
IsWithin None within = within ≡ true
IsWithin (Some most) within = Unit {0}

-- the readers gave texts, each to its end, and the plan that these give is such
pub record OfGivenPlan {D : Type 0} (reader : Reader D) (IsSuch : Contents → Type 0) (befores nows : List D) : Type 0 where
  pub texts : List (List ℕ)
  pub read : ReadsTexts reader befores texts nows
  pub plan : Contents
  pub given : GiveThePlan texts plan
  pub holds : IsSuch plan

-- the texts give a plan of which this is the status
pub record GiveJudged (texts : List (List ℕ)) (status : Status) : Type 0 where
  pub plan : Contents
  pub given : GiveThePlan texts plan
  pub judged : Judges status plan

-- it is this plan, and it is such
abbrev pub IsOf : Contents → (Contents → Type 0) → Contents → Type 0
IsOf this IsSuch plan = (plan ≡ this) × IsSuch this

-- the readers gave what gives a plan, and a certificate; the status is that of the answer to it
pub record IsAnswered {D E : Type 0} (first : Reader D) (second : Reader E) (before : List D × E) (status : Status) (now : List D × E) : Type 0 where
  pub texts : List (List ℕ)
  pub cert : List ℕ
  pub read : ReadsTexts first before.0 texts now.0
  pub cert_read : ReadsText second before.1 cert now.1
  pub plan : Contents
  pub given : GiveThePlan texts plan
  pub answer : Answer
  pub right : IsAnswer plan cert answer
  pub ended : status ≡ answer_status answer
