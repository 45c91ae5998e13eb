use Rattle.std.proofs.Common.{ap, sym, subst, ◌∙◌}
use Rattle.bench_run.specs.Outcomes.{IsOutcomeOf}
use Rattle.given_plans.specs.declared.plans.Halted.{Halted}
use Rattle.plan_core.specs.PlanContents.{plan_contents}
use Rattle.run_parts.specs.Runs.{ReadsText}
use Rattle.run_parts.specs.declared.errors.RunError.{RunError}
use Rattle.given_runs.specs.Starting.{HaltsAtStarters, unread}
use Rattle.given_runs.proofs.RehearsalLemmas.{by_cert, by_its_cert, halts_at_starters}
use Rattle.given_runs.proofs.rehearsing.rehearse_by.Goals as goal

pub returns-in-Ok-clause-cert : goal.returns-in-Ok-clause-cert
returns-in-Ok-clause-cert g c =
    by_cert (λ t. ReadsText g.J.Input.reader c.args.cert.now t c.read_within.new.reader) c.in-Ok.text c.rehearse_given.result c.rehearse_given.ensures.cert c.in-Ok.ensures.all

pub returns-in-Ok-clause-outcome : goal.returns-in-Ok-clause-outcome
returns-in-Ok-clause-outcome g c =
    by_its_cert (λ t it. IsOutcomeOf (plan_contents c.args.given.plan) c.args.starters.now c.args.answers.now c.args.fill t it) c.in-Ok.text c.rehearse_given.result c.rehearse_given.ensures.cert c.rehearse_given.ensures.outcome

pub returns-in-Ok-clause-stops : goal.returns-in-Ok-clause-stops
returns-in-Ok-clause-stops g c =
    halts_at_starters g.J.Input.reader c.args.starters.now (plan_contents c.args.given.plan) c.args.cert.now c.read_within.new.reader c.in-Ok.text.items c.in-Ok.ensures.all c.rehearse_given.result c.rehearse_given.ensures.refused

pub returns-in-Err-clause-stops : goal.returns-in-Err-clause-stops
returns-in-Err-clause-stops g c =
    subst (λ (e : RunError). HaltsAtStarters g.J.Input.reader c.args.starters.now (plan_contents c.args.given.plan) c.args.cert.now e c.read_within.new.reader)
    (sym (ap (λ (h : Halted). h.error) c.from-in-Err.ensures.0 ∙ c.from.ensures.0)) (unread c.in-Err.ensures.stops)
