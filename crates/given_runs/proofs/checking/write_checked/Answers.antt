use Rattle.std.proofs.Common.{string_bytes}
use Rattle.given_runs.specs.Due.{CheckedPlan}
use Rattle.plan_core.specs.PlanContents.{plan_contents}
use Rattle.given_runs.proofs.DueLemmas.{checked_plan}
use Rattle.given_runs.proofs.RunLemmas.{lines_wrote, lines_stop}
use Rattle.given_runs.proofs.checking.write_checked.Goals as goal

pub returns-clause-wrote : goal.returns-clause-wrote
returns-clause-wrote g c =
    let it = c.args.checked.now in
    let plan = plan_contents it.plan in
    let due = checked_plan plan (string_bytes c.in_ok-report.report) c.as_bytes.result.now it.faults c.status_of.result c.requires c.as_bytes.ensures.value c.in_ok-report.ensures (c.status_of.ensures plan (c.is_safe.ensures plan c.requires)) in
    lines_wrote (CheckedPlan plan) g.O.Output.writer c.args.out.now c.write_lines.new.out c.as_bytes.result.now c.status_of.result due c.write_lines.result c.write_lines.ensures.status c.write_lines.ensures.all

pub returns-clause-stops : goal.returns-clause-stops
returns-clause-stops g c =
    let it = c.args.checked.now in
    let plan = plan_contents it.plan in
    let due = checked_plan plan (string_bytes c.in_ok-report.report) c.as_bytes.result.now it.faults c.status_of.result c.requires c.as_bytes.ensures.value c.in_ok-report.ensures (c.status_of.ensures plan (c.is_safe.ensures plan c.requires)) in
    lines_stop (CheckedPlan plan) g.O.Output.writer c.args.out.now c.write_lines.new.out c.as_bytes.result.now c.status_of.result due c.write_lines.result c.write_lines.ensures.stops
