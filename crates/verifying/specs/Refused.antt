-- How a refusal of a plan's text is answered.
use Rattle.plan_text.specs.declared.errors.PlanError.{PlanError}
use Rattle.plan_text.specs.declared.errors.PlanError.TheVariants as plan
use Rattle.verifying.specs.declared.acceptance.AcceptError.{AcceptError}
use Rattle.verifying.specs.declared.acceptance.AcceptError.TheVariants.{Plan, NoMemory}

-- out of memory alone, whatever the allocation was for
abbrev pub refused_with : PlanError → AcceptError
refused_with plan.NoMemory = NoMemory
refused_with e = Plan e
