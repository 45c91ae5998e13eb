use Rattle.std.proofs.Common.{◌≡◌, ◌≢◌, subst, Result}
use Rattle.std.specs.Prelude.{IfOk, OnOk, IfErr}
use Rattle.plan_core.specs.PlanContents.{plan_contents}
use Rattle.cert_check.specs.Accepts.{IsAnswer}
use Rattle.cert_check.specs.Holds.{accepted_plan}
use Rattle.cert_check.specs.declared.accepted.Accepted.{Accepted}
use Rattle.cert_check.specs.declared.answers.Answer.TheVariants.{Safe}
use Rattle.cert_check.specs.declared.answers.Answered.{Answered}
use Rattle.bench_run.proofs.RehearsalLemmas.{rehearsed_by, unplayed_by, not_accepted}
use Rattle.bench_run.proofs.rehearsing.rehearse.Goals as goal

pub returns-in-Ok-clause-found : goal.returns-in-Ok-clause-found
returns-in-Ok-clause-found g c =
    let same = subst (λ (r : Result Accepted Answered). IfOk r (λ it. accepted_plan it ≡ c.args.plan)) c.in-Ok.is c.in_ok-accepted.ensures.plan in
    let safe = subst (λ (r : Result Accepted Answered). OnOk r (IsAnswer (plan_contents c.args.plan) c.args.cert.now Safe)) c.in-Ok.is c.in_ok-accepted.ensures.safe in
    rehearsed_by c.args.plan (accepted_plan c.in-Ok.accepted) c.args.starters.now c.args.cert.now c.args.answers.now c.args.fill c.rehearse_accepted.result same safe c.rehearse_accepted.ensures.played

pub returns-in-Ok-clause-refused : goal.returns-in-Ok-clause-refused
returns-in-Ok-clause-refused g c =
    let same = subst (λ (r : Result Accepted Answered). IfOk r (λ it. accepted_plan it ≡ c.args.plan)) c.in-Ok.is c.in_ok-accepted.ensures.plan in
    let safe = subst (λ (r : Result Accepted Answered). OnOk r (IsAnswer (plan_contents c.args.plan) c.args.cert.now Safe)) c.in-Ok.is c.in_ok-accepted.ensures.safe in
    unplayed_by c.args.plan (accepted_plan c.in-Ok.accepted) c.args.starters.now c.args.cert.now c.rehearse_accepted.result same safe c.rehearse_accepted.ensures.refused

pub returns-in-Err-clause-found : goal.returns-in-Err-clause-found
returns-in-Err-clause-found g c =
    let same = subst (λ (r : Result Accepted Answered). IfErr r (λ it. it.plan ≡ c.args.plan)) c.in-Err.is c.in_ok-accepted.ensures.back in
    let right = subst (λ (r : Result Accepted Answered). IfErr r (λ it. (it.answer ≢ Safe) × IsAnswer (plan_contents c.args.plan) c.args.cert.now it.answer)) c.in-Err.is c.in_ok-accepted.ensures.not_safe in
    not_accepted c.args.plan c.args.cert.now c.in-Err.answered same right
