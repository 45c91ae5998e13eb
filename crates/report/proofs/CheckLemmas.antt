-- What a check knows of a plan text that is refused, and of one that is not.
use Rattle.std.proofs.Common.{◌≡◌, ◌∙◌, List, ℕ}
use Rattle.plan_core.specs.PlanContents.{plan_contents}
use Rattle.report.specs.Checks.{Judges, Checked}
use Rattle.report.specs.FaultLines.{fault_report}
use Rattle.report.specs.Found.{CheckOf}
use Rattle.verdicts.specs.declared.checked.Checked as value
use Rattle.report.proofs.LineLemmas.{report_is}
use Rattle.run_parts.specs.declared.runs.Status.{Status}
use Rattle.verdicts.specs.Faults.{AreFaults, fault_list}

-- the report of what was found is due for the text
pub due_report : (text report bytes : List ℕ) (status : Status) (it : value.Checked) → CheckOf text it →
    bytes ≡ report → report ≡ fault_report (plan_contents it.plan) (fault_list it.faults) →
    (AreFaults (plan_contents it.plan) (fault_list it.faults) → Judges status (plan_contents it.plan)) →
    Checked text bytes status
due_report text report bytes status it found whole same judged = record {
  plan = plan_contents it.plan;
  spelled = found.spelled;
  verdicts = found.right.verdicts;
  right = found.right.right;
  lines = whole ∙ (same ∙ report_is (plan_contents it.plan) found.right.verdicts (fault_list it.faults) found.right.right found.right.these);
  judged = judged found.right;
}
