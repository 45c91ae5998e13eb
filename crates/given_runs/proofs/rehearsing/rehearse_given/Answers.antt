use Rattle.std.proofs.Common.{ℕ, List, subst}
use Rattle.bench_run.specs.Outcomes.{IsOutcomeOf, IsUnplayedOf}
use Rattle.plan_core.specs.PlanContents.{plan_contents}
use Rattle.given_runs.proofs.RehearsalLemmas.{lacks_bench, handed_back}
use Rattle.given_runs.proofs.rehearsing.rehearse_given.Goals as goal

pub returns-in-Ok-clause-outcome : goal.returns-in-Ok-clause-outcome
returns-in-Ok-clause-outcome g c =
    subst (λ (t : List ℕ). IsOutcomeOf (plan_contents c.args.given.plan) c.args.starters.now c.args.answers.now c.args.fill t c.in-Ok.outcome) c.as_slice.ensures.value c.in-Ok.ensures.found

pub returns-in-Err-clause-refused : goal.returns-in-Err-clause-refused
returns-in-Err-clause-refused g c =
    let why = subst (λ (t : List ℕ). IsUnplayedOf c.args.given.plan c.args.starters.now t c.in-Err.unplayed) c.as_slice.ensures.value c.in-Err.ensures.refused in
    lacks_bench c.args.given.plan c.args.starters.now c.args.cert.items c.in-Err.unplayed c.stopped_by.result.halted.error c.stopped_by.ensures.error why

pub returns-in-Err-clause-back : goal.returns-in-Err-clause-back
returns-in-Err-clause-back g c =
    handed_back c.args.given c.args.starters.now c.as_slice.result.now c.in-Err.unplayed c.stopped_by.result.given c.in-Err.ensures.refused c.stopped_by.ensures.back
