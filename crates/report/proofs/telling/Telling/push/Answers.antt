use Rattle.plan_core.specs.PlanContents.{plan_contents}
use Rattle.capture_check.specs.Views.{recorded}
use Rattle.capture_check.proofs.LeaverLemmas.{explainers_within}
use Rattle.report.proofs.telling.Telling.push.Goals as goal

pub push_line-requires : goal.push_line-requires
push_line-requires c = explainers_within (plan_contents c.args.plan.now) (recorded c.args.transaction.now) c.args.participants.now c.requires
