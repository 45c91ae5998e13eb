use Rattle.std.proofs.Common.{sym, subst}
use Rattle.decoding.specs.Dumps.{HaltsAtDump}
use Rattle.given_runs.specs.Due.{CapturedPlan}
use Rattle.plan_core.specs.PlanContents.{plan_contents}
use Rattle.run_parts.specs.Runs.{ReadsText, Stops}
use Rattle.run_parts.specs.declared.errors.RunError.{RunError}
use Rattle.vcd_read.specs.Views.{asked}
use Rattle.given_runs.proofs.capturing.capture_plan.Goals as goal

pub returns-in-Err-clause-stops : goal.returns-in-Err-clause-stops
returns-in-Err-clause-stops g c =
    subst (λ (e : RunError). Stops (ReadsText g.J.Input.reader) (CapturedPlan c.args.least (asked c.args.scl) (asked c.args.sda) (plan_contents c.args.given.plan)) g.O.Output.writer (HaltsAtDump g.J.Input.reader (asked c.args.scl) (asked c.args.sda)) c.args.vcd.now c.args.out.now e c.write_capture.new.vcd c.write_capture.new.out) (sym c.from.ensures.0) c.in-Err.ensures.stops
