-- How the writing ends of a report that is due for a plan. Only private contracts and proofs use this.
use Rattle.std.specs.Prelude.{◌≡◌, ◌⊎◌, ℕ, List}
use Rattle.bench_run.specs.Outcomes.{outcome_lines, outcome_status}
use Rattle.bench_run.specs.Rehearsals.{RefusesStarters}
use Rattle.bench_run.specs.declared.values.Outcome.{Outcome}
use Rattle.brief_tokens.specs.Names.{LacksBrief}
use Rattle.cert_check.specs.Accepts.{IsAnswer}
use Rattle.cert_check.specs.declared.answers.Answer.{Answer}
use Rattle.cert_check.specs.declared.answers.Answer.TheVariants.{Safe}
use Rattle.given_runs.specs.Due.{AbbreviatedPlan}
use Rattle.plan_core.specs.Contents.{Contents}
use Rattle.plan_text.specs.declared.briefs.NoBrief.{NoBrief}
use Rattle.run_parts.specs.Devices.{Writer}
use Rattle.run_parts.specs.Writing.{WritesAll, WritingStops}
use Rattle.run_parts.specs.declared.errors.RunError.{RunError}
use Rattle.run_parts.specs.declared.errors.RunError.TheVariants.{Brief, NoMemory}
use Rattle.run_parts.specs.declared.runs.Status.{Status}
use Rattle.verifying.specs.Answers.{answer_status, verify_line}

module _ {Out : Type 0} (Due : List ℕ → Status → Type 0) (writer : Writer Out) (before : Out) where
  -- the writer took a report that is due
  pub record Wrote (status : Status) (now : Out) : Type 0 where
    pub report : List ℕ
    pub due : Due report status
    pub written : WritesAll writer before report now

  pub record StoppedWithin (error : RunError) (now : Out) : Type 0 where
    pub report : List ℕ
    pub status : Status
    pub due : Due report status
    pub stopped : WritingStops writer before report error now

  -- an allocation failed before the first byte, or the writer stopped within a report that is due
  abbrev pub StopsWriting : RunError → Out → Type 0
  StopsWriting error now = ((error ≡ NoMemory) × (now ≡ before)) ⊎ StoppedWithin error now

-- the plan has no brief, an allocation failed before the first byte, or the writer stopped within a brief
abbrev pub LacksOrStops : {Out : Type 0} → Contents → Writer Out → Out → RunError → Out → Type 0
LacksOrStops plan writer before error now =
    ((why : NoBrief) × (error ≡ Brief why) × LacksBrief plan why × (now ≡ before))
    ⊎ StopsWriting (AbbreviatedPlan plan) writer before error now

-- the line and the status of this answer
abbrev pub IsOfAnswer : Answer → List ℕ → Status → Type 0
IsOfAnswer answer report status = (report ≡ verify_line answer) × (status ≡ answer_status answer)

-- the lines and the status of what came of a rehearsal
abbrev pub IsOfOutcome : Outcome → List ℕ → Status → Type 0
IsOfOutcome outcome report status = (report ≡ outcome_lines outcome) × (status ≡ outcome_status outcome)

-- An allocation failed. Or the text of the certificate proves that the plan is safe, and no bench is opened for the starters.
abbrev pub LacksBench : Contents → List ℕ → List ℕ → RunError → Type 0
LacksBench plan starters cert error = (error ≡ NoMemory) ⊎ (IsAnswer plan cert Safe × RefusesStarters plan starters error)
