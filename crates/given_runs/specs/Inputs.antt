-- What a run reads that is over what gives a plan and over one more text.
use Rattle.std.specs.Prelude.{ℕ, List}
use Rattle.plan_core.specs.Contents.{Contents}
use Rattle.given_plans.specs.Sources.{GiveThePlan, ReadsTexts, HaltsAtTexts}
use Rattle.run_parts.specs.Devices.{Reader}
use Rattle.run_parts.specs.Runs.{Readings, Halts, ReadsText}
use Rattle.run_parts.specs.declared.errors.RunError.{RunError}
use Rattle.run_parts.specs.declared.runs.Status.{Status}

-- what is due for a plan and for the text beside it
abbrev pub DueBeside : Type 1
DueBeside = Contents → List ℕ → List ℕ → Status → Type 0

-- for texts that give a plan, and for one beside them, a report is due that is due for the plan and this text
pub record DueForBoth (Due : DueBeside) (texts : List (List ℕ) × List ℕ) (report : List ℕ) (status : Status) : Type 0 where
  pub plan : Contents
  pub given : GiveThePlan texts.0 plan
  pub due : Due plan texts.1 report status

module _ {D E : Type 0} (first : Reader D) (second : Reader E) where
  -- the run has read what gives a plan, and then one more text, each to its end
  abbrev pub ReadsTextsAndOne : Readings (List D × E) (List (List ℕ) × List ℕ)
  ReadsTextsAndOne before texts now = ReadsTexts first before.0 texts.0 now.0 × ReadsText second before.1 texts.1 now.1

  -- the run halted at what gives a plan, and the second reader is as it was; or these gave a plan, and it halted after that
  pub data HaltsAtEither (HaltsBeside : Contents → Halts E) (before : List D × E) : RunError → List D × E → Type 0 where
    at_plan : {error : RunError} {now : List D} →
        HaltsAtTexts first before.0 error now →
        HaltsAtEither HaltsBeside before error (now, before.1)
    at_second : {error : RunError} {texts : List (List ℕ)} {plan : Contents} {now : List D × E} →
        ReadsTexts first before.0 texts now.0 →
        GiveThePlan texts plan →
        HaltsBeside plan before.1 error now.1 →
        HaltsAtEither HaltsBeside before error now
