use Rattle.std.proofs.Common.{sym, subst}
use Rattle.std.specs.Prelude.{IfSome}
use Rattle.bench_run.specs.Outcomes.{IsOutcomeOf}
use Rattle.given_plans.specs.Sources.{ReadsUpTo, bytes_of}
use Rattle.given_plans.specs.declared.plans.Halted.{Halted}
use Rattle.plan_core.specs.PlanContents.{plan_contents}
use Rattle.given_runs.specs.Inputs.{HaltsAtEither, at_plan, at_second}
use Rattle.given_runs.specs.Starting.{HaltsAtStarters}
use Rattle.given_runs.proofs.RehearsalLemmas.{of_given, if_unrehearsed, back_gives}
use Rattle.given_runs.proofs.rehearsing.find_rehearsed.Goals as goal

pub returns-in-Ok-clause-outcome : goal.returns-in-Ok-clause-outcome
returns-in-Ok-clause-outcome g c =
    let given = c.in-Ok.given in
    of_given (λ plan it. IsOutcomeOf plan c.args.starters.now c.args.answers.now c.args.fill it.cert.items it.outcome) given.provenance (plan_contents given.plan) c.rehearse_by.result c.in-Ok.ensures.given c.rehearse_by.ensures.provenance c.rehearse_by.ensures.outcome

pub returns-in-Ok-clause-stops : goal.returns-in-Ok-clause-stops
returns-in-Ok-clause-stops g c =
    if_unrehearsed c.rehearse_by.result (λ e. HaltsAtStarters g.J.Input.reader c.args.starters.now (plan_contents c.in-Ok.given.plan) c.args.cert.now e c.rehearse_by.new.cert)
    (λ e. HaltsAtEither g.I.Input.reader g.J.Input.reader (HaltsAtStarters g.J.Input.reader c.args.starters.now) (c.args.readers.now, c.args.cert.now) e (c.find_among.new.readers, c.rehearse_by.new.cert))
    (λ e h. at_second c.in-Ok.ensures.read c.in-Ok.ensures.given h) c.rehearse_by.ensures.stops

pub returns-in-Ok-clause-back : goal.returns-in-Ok-clause-back
returns-in-Ok-clause-back g c = back_gives c.in-Ok.given c.rehearse_by.result c.in-Ok.ensures.given c.rehearse_by.ensures.back

pub returns-in-Err-clause-stops : goal.returns-in-Err-clause-stops
returns-in-Err-clause-stops g c =
    subst (λ (h : Halted). HaltsAtEither g.I.Input.reader g.J.Input.reader (HaltsAtStarters g.J.Input.reader c.args.starters.now) (c.args.readers.now, c.args.cert.now) h.error (c.find_among.new.readers, c.args.cert.now))
    (sym c.from.ensures.0) (at_plan c.in-Err.ensures.stops)

pub returns-in-Err-clause-text : goal.returns-in-Err-clause-text
returns-in-Err-clause-text g c =
    subst (λ (h : Halted). IfSome h.text (λ it. ReadsUpTo g.I.Input.reader c.args.readers.now (bytes_of it.before.items) it.text.items c.find_among.new.readers))
    (sym c.from.ensures.0) c.in-Err.ensures.text
