use Rattle.std.proofs.Common.{string_bytes}
use Rattle.given_runs.specs.Due.{OrderedPlan}
use Rattle.plan_core.specs.PlanContents.{plan_contents}
use Rattle.given_runs.proofs.DueLemmas.{ordered_plan}
use Rattle.given_runs.proofs.RunLemmas.{lines_wrote, lines_stop}
use Rattle.given_runs.proofs.ordering.order_lines.Goals as goal

pub returns-clause-wrote : goal.returns-clause-wrote
returns-clause-wrote g c =
    let plan = plan_contents c.args.plan.now in
    let due = ordered_plan plan c.args.order.now c.args.status (string_bytes c.in_ok-report.report) c.as_bytes.result.now c.requires.order c.requires.judged c.as_bytes.ensures.value c.in_ok-report.ensures in
    lines_wrote (OrderedPlan plan) g.O.Output.writer c.args.out.now c.write_lines.new.out c.as_bytes.result.now c.args.status due c.write_lines.result c.write_lines.ensures.status c.write_lines.ensures.all

pub returns-clause-stops : goal.returns-clause-stops
returns-clause-stops g c =
    let plan = plan_contents c.args.plan.now in
    let due = ordered_plan plan c.args.order.now c.args.status (string_bytes c.in_ok-report.report) c.as_bytes.result.now c.requires.order c.requires.judged c.as_bytes.ensures.value c.in_ok-report.ensures in
    lines_stop (OrderedPlan plan) g.O.Output.writer c.args.out.now c.write_lines.new.out c.as_bytes.result.now c.args.status due c.write_lines.result c.write_lines.ensures.stops
