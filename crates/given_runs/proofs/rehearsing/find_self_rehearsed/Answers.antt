use Rattle.std.proofs.Common.{◌≡◌, ◌⊎◌, sym, subst}
use Rattle.std.specs.Prelude.{IfSome}
use Rattle.bench_run.specs.Rehearsals.{RefusesStarters}
use Rattle.given_plans.specs.Sources.{ReadsUpTo, bytes_of}
use Rattle.given_plans.specs.declared.plans.Halted.{Halted}
use Rattle.plan_core.specs.Faults.{IsSafe}
use Rattle.plan_core.specs.PlanContents.{plan_contents}
use Rattle.run_parts.specs.declared.errors.RunError.TheVariants.{NoMemory}
use Rattle.given_runs.specs.Starting.{HaltsAtOwnStarters, at_texts}
use Rattle.given_runs.proofs.RehearsalLemmas.{own_outcome, if_unrehearsed, back_gives, halts_at_own}
use Rattle.given_runs.proofs.rehearsing.find_self_rehearsed.Goals as goal

pub returns-in-Ok-clause-outcome : goal.returns-in-Ok-clause-outcome
returns-in-Ok-clause-outcome g c =
    let given = c.in-Ok.given in
    own_outcome c.args.starters.now c.args.answers.now c.args.fill given.provenance (plan_contents given.plan) c.rehearse_alone.result c.in-Ok.ensures.given c.rehearse_alone.ensures.provenance c.rehearse_alone.ensures.own c.rehearse_alone.ensures.outcome c.rehearse_alone.ensures.judged

pub returns-in-Ok-clause-stops : goal.returns-in-Ok-clause-stops
returns-in-Ok-clause-stops g c =
    let given = c.in-Ok.given in
    let plan = plan_contents given.plan in
    if_unrehearsed c.rehearse_alone.result (λ e. (e ≡ NoMemory) ⊎ (IsSafe plan × RefusesStarters plan c.args.starters.now e))
    (λ e. HaltsAtOwnStarters g.I.Input.reader c.args.starters.now c.args.readers.now e c.find_among.new.readers)
    (halts_at_own g.I.Input.reader c.args.starters.now c.args.readers.now c.find_among.new.readers (bytes_of given.provenance.texts.items) plan c.in-Ok.ensures.read c.in-Ok.ensures.given) c.rehearse_alone.ensures.refused

pub returns-in-Ok-clause-back : goal.returns-in-Ok-clause-back
returns-in-Ok-clause-back g c = back_gives c.in-Ok.given c.rehearse_alone.result c.in-Ok.ensures.given c.rehearse_alone.ensures.back

pub returns-in-Err-clause-stops : goal.returns-in-Err-clause-stops
returns-in-Err-clause-stops g c =
    subst (λ (h : Halted). HaltsAtOwnStarters g.I.Input.reader c.args.starters.now c.args.readers.now h.error c.find_among.new.readers)
    (sym c.from.ensures.0) (at_texts c.in-Err.ensures.stops)

pub returns-in-Err-clause-text : goal.returns-in-Err-clause-text
returns-in-Err-clause-text g c =
    subst (λ (h : Halted). IfSome h.text (λ it. ReadsUpTo g.I.Input.reader c.args.readers.now (bytes_of it.before.items) it.text.items c.find_among.new.readers))
    (sym c.from.ensures.0) c.in-Err.ensures.text
