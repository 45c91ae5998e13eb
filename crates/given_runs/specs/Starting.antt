-- Why a rehearsal goes no further.
use Rattle.std.specs.Prelude.{ℕ, List}
use Rattle.bench_run.specs.Rehearsals.{RefusesStarters}
use Rattle.cert_check.specs.Accepts.{IsAnswer}
use Rattle.cert_check.specs.declared.answers.Answer.TheVariants.{Safe}
use Rattle.given_plans.specs.Sources.{GiveThePlan, HaltsAtTexts, ReadsTexts}
use Rattle.plan_core.specs.Contents.{Contents}
use Rattle.plan_core.specs.Faults.{IsSafe}
use Rattle.run_parts.specs.Devices.{Reader}
use Rattle.run_parts.specs.Reading.{ReadingStops}
use Rattle.run_parts.specs.Runs.{ReadsText, most_reads}
use Rattle.run_parts.specs.declared.errors.RunError.{RunError}
use Rattle.run_parts.specs.declared.errors.RunError.TheVariants.{NoMemory}

-- The certificate was not read to its end, or an allocation failed after that. Or it proves that the plan is safe, and no bench
-- is opened for the starters of this text.
pub data HaltsAtStarters {E : Type 0} (reader : Reader E) (starters : List ℕ) (plan : Contents) (before : E) : RunError → E → Type 0 where
  unread : {error : RunError} {now : E} →
      ReadingStops reader most_reads before error now →
      HaltsAtStarters reader starters plan before error now
  no_memory : {cert : List ℕ} {now : E} →
      ReadsText reader before cert now →
      HaltsAtStarters reader starters plan before NoMemory now
  not_opened : {error : RunError} {cert : List ℕ} {now : E} →
      ReadsText reader before cert now →
      IsAnswer plan cert Safe →
      RefusesStarters plan starters error →
      HaltsAtStarters reader starters plan before error now

-- The run halted at what gives a plan, or an allocation failed after that. Or the plan is safe, and no bench is opened for the
-- starters of this text.
pub data HaltsAtOwnStarters {D : Type 0} (reader : Reader D) (starters : List ℕ) (befores : List D) : RunError → List D → Type 0 where
  at_texts : {error : RunError} {nows : List D} →
      HaltsAtTexts reader befores error nows →
      HaltsAtOwnStarters reader starters befores error nows
  at_starters : {error : RunError} {texts : List (List ℕ)} {plan : Contents} {nows : List D} →
      ReadsTexts reader befores texts nows →
      GiveThePlan texts plan →
      IsSafe plan →
      RefusesStarters plan starters error →
      HaltsAtOwnStarters reader starters befores error nows
