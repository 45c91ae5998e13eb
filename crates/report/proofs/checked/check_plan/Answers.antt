use Rattle.run_parts.specs.PlanTexts.{RefusesPlan}
use Rattle.run_parts.specs.Runs.{HaltsAtText, refused}
use Rattle.run_parts.specs.declared.errors.RunError.TheVariants as error
use Rattle.run_parts.proofs.RunLemmas.{on_error}
use Rattle.report.proofs.checked.check_plan.Goals as goal

pub returns-in_err-faults-clause-stops : goal.returns-in_err-faults-clause-stops
returns-in_err-faults-clause-stops g c one =
    on_error c.from_residual-in_err-faults.result error.NoMemory (λ e. HaltsAtText g.I.Input.reader RefusesPlan c.args.plan.now e c.find_plan.new.plan) c.from_residual-in_err-faults.ensures.1 (refused c.in_ok-plan.ensures.found.read tt)
