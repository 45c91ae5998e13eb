-- What is due of what came of a rehearsal, and how a run ends by how its rehearsal ends.
use Rattle.std.proofs.Common.{◌≡◌, ◌⊎◌, ◌∙◌, inl, inr, ℕ, Bool, true, false, List, Option, Some, None, is_some, Result, Ok, Err, IfOk, IfErr, IfSome, ap, sym, subst}
use Rattle.std.specs.Prelude.{Vec}
use Rattle.std.proofs.lemmas.Option.{same_Some}
use Rattle.std.specs.declared.alloc.Global.{Global}
use Rattle.bench_run.specs.Lines.{rehearsal_lines}
use Rattle.bench_run.specs.Outcomes.{IsOutcomeOf, IsUnplayedOf, outcome_status}
use Rattle.bench_run.specs.Rehearsals.{RefusesStarters}
use Rattle.bench_run.specs.declared.values.Outcome.{Outcome}
use Rattle.bench_run.specs.declared.values.Outcome.TheVariants as outcome
use Rattle.bench_run.specs.declared.values.Unplayed.{Unplayed}
use Rattle.cert_check.specs.Accepts.{IsAnswer}
use Rattle.cert_check.specs.declared.answers.Answer.{Answer}
use Rattle.cert_check.specs.declared.answers.Answer.TheVariants as said
use Rattle.cert_check.proofs.AnswerLemmas.{judged_safe}
use Rattle.given_plans.specs.Sources.{GiveThePlan, HaltsAtTexts, ReadsTexts, after_all, bytes_of}
use Rattle.given_plans.specs.declared.plans.GivenPlan.{GivenPlan}
use Rattle.given_plans.specs.declared.plans.Provenance.{Provenance}
use Rattle.given_runs.specs.Due.{RehearsedPlan, SelfRehearsedPlan}
use Rattle.given_runs.specs.Starting.{HaltsAtOwnStarters, HaltsAtStarters, at_starters, at_texts, no_memory, not_opened}
use Rattle.given_runs.specs.Written.{IsOfOutcome, LacksBench, StopsWriting, Wrote}
use Rattle.given_runs.specs.declared.rehearsing.GivenOutcome.{GivenOutcome}
use Rattle.given_runs.specs.declared.rehearsing.Unrehearsed.{Unrehearsed}
use Rattle.given_runs.proofs.DueLemmas.{some_status}
use Rattle.given_runs.proofs.RunLemmas.{reports, stops}
use Rattle.plan_core.specs.Contents.{Contents}
use Rattle.plan_core.specs.Faults.{IsSafe}
use Rattle.plan_core.specs.Limits.{IsWithinLimits}
use Rattle.plan_core.specs.PlanContents.{plan_contents}
use Rattle.plan_core.specs.declared.plans.Plan.{Plan}
use Rattle.report.specs.Checks.{Judges}
use Rattle.report.proofs.AcceptedLemmas.{accepted_safe, accepted_unsafe}
use Rattle.run_parts.specs.Devices.{Reader, Writer}
use Rattle.run_parts.specs.Runs.{Readings, Halts, DueReports, ReadsText, Reports, Stops}
use Rattle.run_parts.specs.declared.errors.RunError.{RunError}
use Rattle.run_parts.specs.declared.errors.RunError.TheVariants.{NoMemory}
use Rattle.run_parts.specs.declared.runs.Status.{Status}
use Rattle.run_parts.specs.declared.runs.Status.TheVariants.{Good, Bad}
use Rattle.spellings.specs.Canonical.{plan_text}
use Rattle.spellings.proofs.CanonicalSpelling.{spelled}
use Rattle.verdicts.specs.Certificates.{IsCertificateText}
use Rattle.verifying.specs.Answers.{answer_status}
use Rattle.verifying.specs.Accepts.{Answers}
use Rattle.verifying.proofs.AcceptLemmas.{finds_safe, finds_unsafe}

pub rehearsed_plan : (plan : Contents) (starters : List ℕ) (answers : List Bool) (fill : Bool) (cert : List ℕ) (it : Outcome) → IsOutcomeOf plan starters answers fill cert it →
    (report : List ℕ) (status : Status) → IsOfOutcome it report status → RehearsedPlan starters answers fill plan cert report status
rehearsed_plan plan starters answers fill cert (outcome.Played it) h report status due = inr (record {
  certified = h.certified;
  played = record {
    numbers = it.starters.items;
    named = h.run.named;
    fit = h.run.fit;
    wire = it.played.wire.items;
    won = it.played.won.items;
    rehearsed = h.run.rehearsed;
    lines = due.0 ∙ ap (λ (p : Contents). rehearsal_lines p it.played.wire.items it.played.won.items) h.same_plan;
  };
  good = due.1;
})
rehearsed_plan plan starters answers fill cert (outcome.NotAccepted it) h report status due =
    inl (record { answer = it.answer; other = h.other; right = h.right; line = due.0; ended = due.1 })

pub self_rehearsed_plan : (plan : Contents) (starters : List ℕ) (answers : List Bool) (fill : Bool) (cert : List ℕ) (it : Outcome) → IsCertificateText plan cert → IsOutcomeOf plan starters answers fill cert it → Judges (outcome_status it) plan →
    (report : List ℕ) (status : Status) → IsOfOutcome it report status → SelfRehearsedPlan starters answers fill plan report status
self_rehearsed_plan plan starters answers fill cert it own h judged report status due = record {
  cert = cert;
  own = own;
  due = rehearsed_plan plan starters answers fill cert it h report status due;
  judged = subst (λ (s : Status). Judges s plan) (sym due.1) judged;
}

-- ---- the certificate for a plan itself

safe_for_one : (answer : Answer) → Answers (Ok said.Safe) (Ok answer) → answer ≡ said.Safe
safe_for_one answer (inl is) = cc
safe_for_one answer (inr is) = cc

unsafe_for_one : (answer : Answer) → Answers (Ok said.Unsafe) (Ok answer) → answer ≡ said.Unsafe
unsafe_for_one answer (inl is) = cc
unsafe_for_one answer (inr is) = cc

-- its answer judges of the plan
answer_judges_so : (plan : Contents) → IsWithinLimits plan → (cert : List ℕ) (answer : Answer) → IsCertificateText plan cert → IsAnswer plan cert answer → (status : Status) → Judges status plan → Judges (answer_status answer) plan
answer_judges_so plan limits cert answer own right Good safe =
    let text = spelled plan limits in
    let certified = accepted_safe plan limits own.verdicts own.right (plan_text plan) cert text own.written safe in
    let is = safe_for_one answer (finds_safe (plan_text plan) cert (Ok answer) (record { plan = plan; spelled = text; limits = limits; right = right }) certified) in
    subst (λ (a : Answer). Judges (answer_status a) plan) (sym is) safe
answer_judges_so plan limits cert answer own right Bad faulty =
    let text = spelled plan limits in
    let refuted = accepted_unsafe plan limits own.verdicts own.right (plan_text plan) cert text own.written faulty in
    let is = unsafe_for_one answer (finds_unsafe (plan_text plan) cert (Ok answer) (record { plan = plan; spelled = text; limits = limits; right = right }) refuted) in
    subst (λ (a : Answer). Judges (answer_status a) plan) (sym is) faulty
answer_judges_so plan limits cert answer own right _ none = absurd none

answer_judges : (plan : Contents) → IsWithinLimits plan → (cert : List ℕ) (answer : Answer) → IsCertificateText plan cert → IsAnswer plan cert answer → Judges (answer_status answer) plan
answer_judges plan limits cert answer own right =
    let judged = some_status plan own.verdicts own.right in
    answer_judges_so plan limits cert answer own right judged.0 judged.1

pub outcome_judges : (plan : Contents) → IsWithinLimits plan → (starters : List ℕ) (answers : List Bool) (fill : Bool) (cert : List ℕ) (it : Outcome) → IsCertificateText plan cert → IsOutcomeOf plan starters answers fill cert it → Judges (outcome_status it) plan
outcome_judges plan limits starters answers fill cert (outcome.Played it) own h = answer_judges plan limits cert said.Safe own h.certified
outcome_judges plan limits starters answers fill cert (outcome.NotAccepted it) own h = answer_judges plan limits cert it.answer own h.right

-- ---- where no bench is opened

pub lacks_bench : (plan : Plan) (starters cert : List ℕ) (it : Unplayed) (error : RunError) → error ≡ it.error → IsUnplayedOf plan starters cert it → LacksBench (plan_contents plan) starters cert error
lacks_bench plan starters cert it error same (inl none) = inl (same ∙ none.0)
lacks_bench plan starters cert it error same (inr h) = inr (h.0, subst (RefusesStarters (plan_contents plan) starters) (sym same) h.1)

abbrev given_of : Plan → Provenance → GivenPlan
given_of plan provenance = record { plan = plan; provenance = provenance }

given_back : (given it : GivenPlan) → it.plan ≡ given.plan → it.provenance ≡ given.provenance → it ≡ given
given_back given it plan provenance = ap (λ (p : Plan). given_of p it.provenance) plan ∙ ap (λ (q : Provenance). given_of given.plan q) provenance

one_of : {A : Type 0} (o : Option A) (x y : A) → o ≡ Some x → o ≡ Some y → x ≡ y
one_of o x y first second = same_Some x y (sym first ∙ second)

none_of : {A : Type 0} (o : Option A) (x : A) → o ≡ Some x → o ≡ None → ⊥
none_of o x some none = let clash : true ≡ false = ap is_some (sym some ∙ none) in cc

back_is : (given : GivenPlan) (starters cert : List ℕ) (it : Unplayed) (b : GivenPlan) → it.plan ≡ Some b.plan → b.provenance ≡ given.provenance → IsUnplayedOf given.plan starters cert it → b ≡ given
back_is given starters cert it b plan provenance (inl none) = absurd (none_of it.plan b.plan plan none.1)
back_is given starters cert it b plan provenance (inr h) = given_back given b (one_of it.plan b.plan given.plan plan h.2) provenance

pub handed_back : (given : GivenPlan) (starters cert : List ℕ) (it : Unplayed) (back : Option GivenPlan) → IsUnplayedOf given.plan starters cert it →
    IfSome back (λ b. (it.plan ≡ Some b.plan) × (b.provenance ≡ given.provenance)) → IfSome back (λ b. b ≡ given)
handed_back given starters cert it back why h = by_case back h
  where
    by_case : (o : Option GivenPlan) → IfSome o (λ b. (it.plan ≡ Some b.plan) × (b.provenance ≡ given.provenance)) → IfSome o (λ b. b ≡ given)
    by_case None k = tt
    by_case (Some b) k = back_is given starters cert it b k.0 k.1 why

module _ {E : Type 0} (reader : Reader E) (starters : List ℕ) (plan : Contents) (before now : E) (cert : List ℕ) (read : ReadsText reader before cert now) where
  halts_at : (error : RunError) → LacksBench plan starters cert error → HaltsAtStarters reader starters plan before error now
  halts_at error (inl none) = subst (λ (e : RunError). HaltsAtStarters reader starters plan before e now) (sym none) (no_memory read)
  halts_at error (inr h) = not_opened read h.0 h.1

  pub halts_at_starters : (r : Result GivenOutcome Unrehearsed) → IfErr r (λ e. LacksBench plan starters cert e.halted.error) → IfErr r (λ e. HaltsAtStarters reader starters plan before e.halted.error now)
  halts_at_starters (Ok it) h = tt
  halts_at_starters (Err e) h = halts_at e.halted.error h

-- ---- what came of a plan that was found

pub by_cert : (P : List ℕ → Type 0) (cert : Vec ℕ Global) (r : Result GivenOutcome Unrehearsed) → IfOk r (λ it. it.cert ≡ cert) → P cert.items → IfOk r (λ it. P it.cert.items)
by_cert P cert (Ok it) same h = subst (λ (v : Vec ℕ Global). P v.items) (sym same) h
by_cert P cert (Err e) same h = tt

pub by_its_cert : (P : List ℕ → Outcome → Type 0) (cert : Vec ℕ Global) (r : Result GivenOutcome Unrehearsed) → IfOk r (λ it. it.cert ≡ cert) → IfOk r (λ it. P cert.items it.outcome) → IfOk r (λ it. P it.cert.items it.outcome)
by_its_cert P cert (Ok it) same h = subst (λ (v : Vec ℕ Global). P v.items it.outcome) (sym same) h
by_its_cert P cert (Err e) same h = tt

-- the plan is given by what it was read from
pub of_given : (P : Contents → GivenOutcome → Type 0) (provenance : Provenance) (plan : Contents) (r : Result GivenOutcome Unrehearsed) → GiveThePlan (bytes_of provenance.texts.items) plan →
    IfOk r (λ it. it.provenance ≡ provenance) → IfOk r (P plan) → IfOk r (λ it. (about : Contents) × GiveThePlan (bytes_of it.provenance.texts.items) about × P about it)
of_given P provenance plan (Ok it) given same h = (plan, subst (λ (q : Provenance). GiveThePlan (bytes_of q.texts.items) plan) (sym same) given, h)
of_given P provenance plan (Err e) given same h = tt

pub own_outcome : (starters : List ℕ) (answers : List Bool) (fill : Bool) (provenance : Provenance) (plan : Contents) (r : Result GivenOutcome Unrehearsed) → GiveThePlan (bytes_of provenance.texts.items) plan →
    IfOk r (λ it. it.provenance ≡ provenance) → IfOk r (λ it. IsCertificateText plan it.cert.items) → IfOk r (λ it. IsOutcomeOf plan starters answers fill it.cert.items it.outcome) → IfOk r (λ it. Judges (outcome_status it.outcome) plan) →
    IfOk r (λ it. (about : Contents) × GiveThePlan (bytes_of it.provenance.texts.items) about × IsCertificateText about it.cert.items × IsOutcomeOf about starters answers fill it.cert.items it.outcome × Judges (outcome_status it.outcome) about)
own_outcome starters answers fill provenance plan (Ok it) given same own h judged =
    (plan, subst (λ (q : Provenance). GiveThePlan (bytes_of q.texts.items) plan) (sym same) given, own, h, judged)
own_outcome starters answers fill provenance plan (Err e) given same own h judged = tt

pub outcomes_judge : (plan : Contents) → IsWithinLimits plan → (starters : List ℕ) (answers : List Bool) (fill : Bool) (cert : List ℕ) (r : Result GivenOutcome Unrehearsed) → IsCertificateText plan cert →
    IfOk r (λ it. IsOutcomeOf plan starters answers fill cert it.outcome) → IfOk r (λ it. Judges (outcome_status it.outcome) plan)
outcomes_judge plan limits starters answers fill cert (Ok it) own h = outcome_judges plan limits starters answers fill cert it.outcome own h
outcomes_judge plan limits starters answers fill cert (Err e) own h = tt

-- ---- where it goes no further

pub if_unrehearsed : {X : Type 0} (r : Result X Unrehearsed) (P Q : RunError → Type 0) → ((error : RunError) → P error → Q error) → IfErr r (λ e. P e.halted.error) → IfErr r (λ e. Q e.halted.error)
if_unrehearsed (Ok it) P Q f h = tt
if_unrehearsed (Err e) P Q f h = f e.halted.error h

pub back_gives : {X : Type 0} (given : GivenPlan) (r : Result X Unrehearsed) → GiveThePlan (bytes_of given.provenance.texts.items) (plan_contents given.plan) →
    IfErr r (λ e. IfSome e.given (λ it. it ≡ given)) → IfErr r (λ e. IfSome e.given (λ it. GiveThePlan (bytes_of it.provenance.texts.items) (plan_contents it.plan)))
back_gives given (Ok it) gives h = tt
back_gives given (Err e) gives h = back_one e.given h
  where
    back_one : (back : Option GivenPlan) → IfSome back (λ it. it ≡ given) → IfSome back (λ it. GiveThePlan (bytes_of it.provenance.texts.items) (plan_contents it.plan))
    back_one None h = tt
    back_one (Some it) h = subst (λ (g : GivenPlan). GiveThePlan (bytes_of g.provenance.texts.items) (plan_contents g.plan)) (sym h) gives

lacks_safely : (plan : Contents) (starters cert : List ℕ) (error : RunError) → LacksBench plan starters cert error → (error ≡ NoMemory) ⊎ (IsSafe plan × RefusesStarters plan starters error)
lacks_safely plan starters cert error (inl none) = inl none
lacks_safely plan starters cert error (inr h) = inr (judged_safe plan h.0.0 h.0.2, h.1)

pub lack_safely : {X : Type 0} (plan : Contents) (starters cert : List ℕ) (r : Result X Unrehearsed) → IfErr r (λ e. LacksBench plan starters cert e.halted.error) →
    IfErr r (λ e. (e.halted.error ≡ NoMemory) ⊎ (IsSafe plan × RefusesStarters plan starters e.halted.error))
lack_safely plan starters cert r h =
    if_unrehearsed r (LacksBench plan starters cert) (λ error. (error ≡ NoMemory) ⊎ (IsSafe plan × RefusesStarters plan starters error)) (λ error. lacks_safely plan starters cert error) h

module _ {D : Type 0} (reader : Reader D) (starters : List ℕ) (befores nows : List D) (texts : List (List ℕ)) (plan : Contents) (read : ReadsTexts reader befores texts nows) (given : GiveThePlan texts plan) where
  pub halts_at_own : (error : RunError) → (error ≡ NoMemory) ⊎ (IsSafe plan × RefusesStarters plan starters error) → HaltsAtOwnStarters reader starters befores error nows
  halts_at_own error (inl none) = at_texts (subst (λ (e : RunError). HaltsAtTexts reader befores e nows) (sym none) (after_all read))
  halts_at_own error (inr h) = at_starters read given h.0 h.1

-- ---- a run that writes what came of it

module _ {In Texts Out : Type 0} (Reads : Readings In Texts) (Due : DueReports Texts) (writer : Writer Out) (halts : Halts In) (input : In) (output : Out) (input_now : In) (output_now : Out) (it : Outcome) (texts : Texts) (read : Reads input texts input_now) (owes : (report : List ℕ) (status : Status) → IsOfOutcome it report status → Due texts report status) where
  pub bench_reports : (r : Result (GivenOutcome × Status) Unrehearsed) → IfOk r (λ x. Wrote (IsOfOutcome it) writer output x.1 output_now) → IfOk r (λ x. Reports Reads Due writer input output x.1 input_now output_now)
  bench_reports (Ok x) wrote = reports Reads Due writer halts input output input_now output_now (IsOfOutcome it) texts read owes x.1 wrote
  bench_reports (Err e) wrote = tt

  pub bench_stops : (r : Result (GivenOutcome × Status) Unrehearsed) → halts input NoMemory input_now → IfErr r (λ e. StopsWriting (IsOfOutcome it) writer output e.halted.error output_now) →
      IfErr r (λ e. Stops Reads Due writer halts input output e.halted.error input_now output_now)
  bench_stops (Ok x) halt why = tt
  bench_stops (Err e) halt why = stops Reads Due writer halts input output input_now output_now (IsOfOutcome it) texts read owes e.halted.error halt why
