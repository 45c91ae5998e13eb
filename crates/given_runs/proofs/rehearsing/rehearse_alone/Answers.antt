use Rattle.bench_run.specs.Outcomes.{IsOutcomeOf}
use Rattle.plan_core.specs.PlanContents.{plan_contents}
use Rattle.plan_core.proofs.PlanLemmas.{limits_of}
use Rattle.verdicts.specs.Certificates.{IsCertificateText}
use Rattle.given_runs.proofs.RehearsalLemmas.{by_cert, by_its_cert, outcomes_judge, lack_safely}
use Rattle.given_runs.proofs.rehearsing.rehearse_alone.Goals as goal

pub returns-in-Ok-clause-own : goal.returns-in-Ok-clause-own
returns-in-Ok-clause-own g c =
    by_cert (IsCertificateText (plan_contents c.args.given.plan)) c.in-Ok.cert c.rehearse_given.result c.rehearse_given.ensures.cert c.in-Ok.ensures

pub returns-in-Ok-clause-outcome : goal.returns-in-Ok-clause-outcome
returns-in-Ok-clause-outcome g c =
    by_its_cert (λ t it. IsOutcomeOf (plan_contents c.args.given.plan) c.args.starters.now c.args.answers.now c.args.fill t it) c.in-Ok.cert c.rehearse_given.result c.rehearse_given.ensures.cert c.rehearse_given.ensures.outcome

pub returns-in-Ok-clause-judged : goal.returns-in-Ok-clause-judged
returns-in-Ok-clause-judged g c =
    outcomes_judge (plan_contents c.args.given.plan) (limits_of c.args.given.plan) c.args.starters.now c.args.answers.now c.args.fill c.in-Ok.cert.items c.rehearse_given.result c.in-Ok.ensures c.rehearse_given.ensures.outcome

pub returns-in-Ok-clause-refused : goal.returns-in-Ok-clause-refused
returns-in-Ok-clause-refused g c =
    lack_safely (plan_contents c.args.given.plan) c.args.starters.now c.in-Ok.cert.items c.rehearse_given.result c.rehearse_given.ensures.refused
