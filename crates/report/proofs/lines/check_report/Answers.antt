use Rattle.std.proofs.Common.{string_bytes}
use Rattle.plan_core.specs.PlanContents.{plan_contents}
use Rattle.plan_core.specs.Pairs.{pairs_of}
use Rattle.verdicts.specs.Faults.{fault_list}
use Rattle.report.specs.FaultLines.{fault_lines}
use Rattle.report.proofs.LineLemmas.{listed_within, fault_step, some_at}
use Rattle.report.proofs.lines.check_report.Goals as goal

pub push_fault-requires : goal.push_fault-requires
push_fault-requires c =
    let checked = c.args.checked.now in
    listed_within (plan_contents checked.plan) (fault_list checked.faults) c.loop-k.k (c.get-i.result.0, c.get-i.result.1.now) checked.right c.get-i.ensures

pub loop-k-preserved : goal.loop-k-preserved
loop-k-preserved c =
    let checked = c.args.checked.now in
    let plan = plan_contents checked.plan in
    let faults = fault_list checked.faults in
    let i = c.get-i.result.0 in
    let fault = c.get-i.result.1.now in
    let p = some_at (pairs_of plan) i (listed_within plan faults c.loop-k.k (i, fault) checked.right c.get-i.ensures) in
    fault_step plan faults c.loop-k.k i fault p.0 (string_bytes c.loop-k.report) (string_bytes c.push_fault.new.report) (fault_lines plan faults) c.get-i.ensures p.1 (c.in_ok-push_fault.ensures p.0 p.1) c.loop-k.invariant
