-- The run that explains a capture, once its plan was found.
use Rattle.std.proofs.Common.{List, ℕ, Result, Ok, Err, IfOk, IfErr}
use Rattle.decoding.specs.Dumps.{HaltsAtDump}
use Rattle.given_plans.specs.declared.plans.Halted.{Halted}
use Rattle.given_runs.specs.Due.{CapturedPlan}
use Rattle.given_runs.specs.declared.capturing.GivenCapture.{GivenCapture}
use Rattle.given_runs.specs.Inputs.{DueForBoth, HaltsAtEither, ReadsTextsAndOne, at_second}
use Rattle.given_plans.specs.Sources.{GiveThePlan, ReadsTexts}
use Rattle.plan_core.specs.Contents.{Contents}
use Rattle.run_parts.specs.Devices.{Reader, Writer}
use Rattle.run_parts.specs.Runs.{ReadsText, Reports, Stops, unwritten, writing}
use Rattle.run_parts.specs.declared.errors.RunError.{RunError}
use Rattle.run_parts.specs.declared.runs.Status.{Status}
use Rattle.vcd_read.specs.Probes.{Finder}

module _ {D E O : Type 0} (least : ℕ) (scl sda : Finder) (first : Reader D) (second : Reader E) (writer : Writer O) (befores nows : List D) (vcd : E) (out : O) (texts : List (List ℕ)) (plan : Contents) (read : ReadsTexts first befores texts nows) (given : GiveThePlan texts plan) where
  due_for : (dump report : List ℕ) (status : Status) → CapturedPlan least scl sda plan dump report status → DueForBoth (CapturedPlan least scl sda) (texts, dump) report status
  due_for dump report status due = record { plan = plan; given = given; due = due }

  pub capture_reports : (vcd_now : E) (out_now : O) (r : Result GivenCapture Halted) → IfOk r (λ it. Reports (ReadsText second) (CapturedPlan least scl sda plan) writer vcd out it.captured.status vcd_now out_now) → IfOk r (λ it. Reports (ReadsTextsAndOne first second) (DueForBoth (CapturedPlan least scl sda)) writer (befores, vcd) out it.captured.status (nows, vcd_now) out_now)
  capture_reports vcd_now out_now (Ok it) h =
      record { texts = (texts, h.texts); read = (read, h.read); report = h.report; due = due_for h.texts h.report it.captured.status h.due; written = h.written }
  capture_reports vcd_now out_now (Err e) h = tt

  capture_stops_at : (error : RunError) (vcd_now : E) (out_now : O) → Stops (ReadsText second) (CapturedPlan least scl sda plan) writer (HaltsAtDump second scl sda) vcd out error vcd_now out_now → Stops (ReadsTextsAndOne first second) (DueForBoth (CapturedPlan least scl sda)) writer (HaltsAtEither first second (λ plan. HaltsAtDump second scl sda)) (befores, vcd) out error (nows, vcd_now) out_now
  capture_stops_at error vcd_now _ (unwritten halts) = unwritten (at_second read given halts)
  capture_stops_at error vcd_now out_now (writing {texts = dump} {report = report} {status = status} dump_read due stopped) = writing (read, dump_read) (due_for dump report status due) stopped

  pub capture_stops : (vcd_now : E) (out_now : O) (r : Result GivenCapture Halted) → IfErr r (λ e. Stops (ReadsText second) (CapturedPlan least scl sda plan) writer (HaltsAtDump second scl sda) vcd out e.error vcd_now out_now) → IfErr r (λ e. Stops (ReadsTextsAndOne first second) (DueForBoth (CapturedPlan least scl sda)) writer (HaltsAtEither first second (λ plan. HaltsAtDump second scl sda)) (befores, vcd) out e.error (nows, vcd_now) out_now)
  capture_stops vcd_now out_now (Ok it) why = tt
  capture_stops vcd_now out_now (Err e) why = capture_stops_at e.error vcd_now out_now why
