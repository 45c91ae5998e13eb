use Rattle.std.proofs.Common.{◌≡◌, ◌++◌, drop, string_bytes}
use Rattle.plan_core.specs.PlanContents.{plan_contents}
use Rattle.verdicts.specs.Faults.{fault_list}
use Rattle.report.specs.FaultLines.{fault_lines}
use Rattle.report.proofs.lines.check_report.Given as goal

-- the lines so far and those of what is left are all lines
abbrev pub invariant-loop-k : goal.invariant-loop-k
invariant-loop-k l =
    let plan = plan_contents l.plan in
    string_bytes l.report ++ fault_lines plan (drop l.k (fault_list l.faults)) ≡ fault_lines plan (fault_list l.faults)
