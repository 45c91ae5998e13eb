-- The statuses of runs over what gives a plan.
use Rattle.std.proofs.Common.{◌≡◌, ◌∙◌, ℕ, Bool, List, Result, Ok, Err, IfOk, inl, inr, refl, subst, sym}
use Rattle.bench_run.specs.Outcomes.{IsOutcomeOf, outcome_status}
use Rattle.bench_run.specs.declared.values.Outcome.{Outcome}
use Rattle.bench_run.specs.declared.values.Outcome.TheVariants as outcome
use Rattle.cert_check.specs.Accepts.{IsAnswer}
use Rattle.cert_check.specs.declared.answers.Answer.{Answer}
use Rattle.cert_check.specs.declared.answers.Answer.TheVariants.{Safe}
use Rattle.given_plans.specs.Sources.{DueFor, GiveThePlan, ReadsTexts, bytes_of}
use Rattle.given_plans.specs.declared.plans.Halted.{Halted}
use Rattle.given_runs.specs.Due.{AnsweredPlan, RehearsedPlan, SelfRehearsedPlan}
use Rattle.given_runs.specs.Inputs.{DueForBoth, ReadsTextsAndOne}
use Rattle.given_runs.specs.declared.checking.GivenCheck.{GivenCheck}
use Rattle.given_runs.specs.declared.rehearsing.GivenOutcome.{GivenOutcome}
use Rattle.given_runs.specs.declared.rehearsing.Unrehearsed.{Unrehearsed}
use Rattle.plan_core.specs.Contents.{Contents}
use Rattle.plan_core.specs.PlanContents.{plan_contents}
use Rattle.plan_runs.specs.Statuses.{IsAnswered, IsOf, OfGivenPlan}
use Rattle.report.specs.Checks.{Judges}
use Rattle.run_parts.specs.Devices.{Reader, Writer}
use Rattle.run_parts.specs.Runs.{ReadsText, Reports}
use Rattle.run_parts.specs.declared.runs.Status.{Status}
use Rattle.verdicts.specs.Certificates.{IsCertificateText}
use Rattle.verifying.specs.Answers.{answer_status}

module _ {D E O : Type 0} (first : Reader D) (second : Reader E) (writer : Writer O) (before now : List D × E) (out out_now : O) where
  answered : (status : Status) → Reports (ReadsTextsAndOne first second) (DueForBoth AnsweredPlan) writer before out status now out_now → IsAnswered first second before status now
  answered status it = record {
    texts = it.texts.0;
    cert = it.texts.1;
    read = it.read.0;
    cert_read = it.read.1;
    plan = it.due.plan;
    given = it.due.given;
    answer = it.due.due.answer;
    right = it.due.due.right;
    ended = it.due.due.ended;
  }

  pub is_answered : {X : Type 0} (r : Result (X × Status) Halted) → IfOk r (λ it. Reports (ReadsTextsAndOne first second) (DueForBoth AnsweredPlan) writer before out it.1 now out_now) → IfOk r (λ it. IsAnswered first second before it.1 now)
  is_answered (Ok it) h = answered it.1 h
  is_answered (Err e) h = tt

-- what is said of this plan may be said otherwise
pub of_this : {D : Type 0} (reader : Reader D) (this : Contents) (P Q : Contents → Type 0) (befores nows : List D) → (P this → Q this) → OfGivenPlan reader (IsOf this P) befores nows → OfGivenPlan reader Q befores nows
of_this reader this P Q befores nows f it =
    record { texts = it.texts; read = it.read; plan = it.plan; given = it.given; holds = subst Q (sym it.holds.0) (f it.holds.1) }

module _ {D : Type 0} (reader : Reader D) (befores nows : List D) where
  pub is_checked : (r : Result (GivenCheck × Status) Halted) → IfOk r (λ it. ReadsTexts reader befores (bytes_of it.0.provenance.texts.items) nows) →
      IfOk r (λ it. GiveThePlan (bytes_of it.0.provenance.texts.items) (plan_contents it.0.checked.plan)) → IfOk r (λ it. Judges it.1 (plan_contents it.0.checked.plan)) →
      IfOk r (λ it. OfGivenPlan reader (IsOf (plan_contents it.0.checked.plan) (Judges it.1)) befores nows)
  is_checked (Ok it) read given judged =
      record { texts = bytes_of it.0.provenance.texts.items; read = read; plan = plan_contents it.0.checked.plan; given = given; holds = (refl, judged) }
  is_checked (Err e) read given judged = tt

-- ---- rehearsals

status_of_due : (starters : List ℕ) (answers : List Bool) (fill : Bool) (plan : Contents) (cert report : List ℕ) (status : Status) → RehearsedPlan starters answers fill plan cert report status →
    (answer : Answer) × IsAnswer plan cert answer × (status ≡ answer_status answer)
status_of_due starters answers fill plan cert report status (inl it) = (it.answer, it.right, it.ended)
status_of_due starters answers fill plan cert report status (inr it) = (Safe, it.certified, it.good)

status_of_outcome : (starters : List ℕ) (answers : List Bool) (fill : Bool) (plan : Contents) (cert : List ℕ) (it : Outcome) → IsOutcomeOf plan starters answers fill cert it →
    (answer : Answer) × IsAnswer plan cert answer × (outcome_status it ≡ answer_status answer)
status_of_outcome starters answers fill plan cert (outcome.Played it) h = (Safe, h.certified, refl)
status_of_outcome starters answers fill plan cert (outcome.NotAccepted it) h = (it.answer, h.right, refl)

module _ {D E : Type 0} (first : Reader D) (second : Reader E) (before now : List D × E) (starters : List ℕ) (answers : List Bool) (fill : Bool) where
  benched : {O : Type 0} (writer : Writer O) (out out_now : O) (status : Status) → Reports (ReadsTextsAndOne first second) (DueForBoth (RehearsedPlan starters answers fill)) writer before out status now out_now → IsAnswered first second before status now
  benched writer out out_now status it =
      let by = status_of_due starters answers fill it.due.plan it.texts.1 it.report status it.due.due in
      record { texts = it.texts.0; cert = it.texts.1; read = it.read.0; cert_read = it.read.1; plan = it.due.plan; given = it.due.given; answer = by.0; right = by.1; ended = by.2 }

  pub is_benched : {X O : Type 0} (writer : Writer O) (out out_now : O) (r : Result (X × Status) Unrehearsed) →
      IfOk r (λ it. Reports (ReadsTextsAndOne first second) (DueForBoth (RehearsedPlan starters answers fill)) writer before out it.1 now out_now) → IfOk r (λ it. IsAnswered first second before it.1 now)
  is_benched writer out out_now (Ok it) h = benched writer out out_now it.1 h
  is_benched writer out out_now (Err e) h = tt

  pub is_rehearsed : (it : GivenOutcome) (status : Status) → status ≡ outcome_status it.outcome → ReadsTexts first before.0 (bytes_of it.provenance.texts.items) now.0 → ReadsText second before.1 it.cert.items now.1 →
      ((plan : Contents) × GiveThePlan (bytes_of it.provenance.texts.items) plan × IsOutcomeOf plan starters answers fill it.cert.items it.outcome) → IsAnswered first second before status now
  is_rehearsed it status is read cert_read h =
      let by = status_of_outcome starters answers fill h.0 it.cert.items it.outcome h.2 in
      record { texts = bytes_of it.provenance.texts.items; cert = it.cert.items; read = read; cert_read = cert_read; plan = h.0; given = h.1; answer = by.0; right = by.1; ended = is ∙ by.2 }

module _ {D : Type 0} (reader : Reader D) (befores nows : List D) (starters : List ℕ) (answers : List Bool) (fill : Bool) where
  pub is_judged : {X O : Type 0} (writer : Writer O) (out out_now : O) (r : Result (X × Status) Unrehearsed) →
      IfOk r (λ it. Reports (ReadsTexts reader) (DueFor (SelfRehearsedPlan starters answers fill)) writer befores out it.1 nows out_now) → IfOk r (λ it. OfGivenPlan reader (Judges it.1) befores nows)
  is_judged writer out out_now (Ok it) h = record { texts = h.texts; read = h.read; plan = h.due.plan; given = h.due.given; holds = h.due.due.judged }
  is_judged writer out out_now (Err e) h = tt

  pub is_self_judged : (it : GivenOutcome) (status : Status) → status ≡ outcome_status it.outcome → ReadsTexts reader befores (bytes_of it.provenance.texts.items) nows →
      ((plan : Contents) × GiveThePlan (bytes_of it.provenance.texts.items) plan × IsCertificateText plan it.cert.items × IsOutcomeOf plan starters answers fill it.cert.items it.outcome × Judges (outcome_status it.outcome) plan) →
      OfGivenPlan reader (Judges status) befores nows
  is_self_judged it status is read h =
      record { texts = bytes_of it.provenance.texts.items; read = read; plan = h.0; given = h.1; holds = subst (λ (s : Status). Judges s h.0) (sym is) h.4 }
