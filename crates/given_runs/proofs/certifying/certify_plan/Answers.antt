use Rattle.plan_core.proofs.PlanLemmas.{limits_of}
use Rattle.plan_core.specs.PlanContents.{plan_contents}
use Rattle.given_runs.proofs.DueLemmas.{certifies_plan, stops_certifying}
use Rattle.given_runs.proofs.certifying.certify_plan.Goals as goal

pub returns-in-Ok-clause-wrote : goal.returns-in-Ok-clause-wrote
returns-in-Ok-clause-wrote g c =
    certifies_plan (plan_contents c.args.plan.now) (limits_of c.args.plan.now) g.O.Output.writer c.args.out.now c.certify_found.new.out c.in-Ok.status c.in-Ok.ensures.report

pub returns-in-Err-clause-stops : goal.returns-in-Err-clause-stops
returns-in-Err-clause-stops g c =
    stops_certifying (plan_contents c.args.plan.now) (limits_of c.args.plan.now) g.O.Output.writer c.args.out.now c.certify_found.new.out c.in-Err.error c.from.result.error c.from.ensures.0 c.in-Err.ensures.stops
