-- The report that is due for a plan, however it was given, and the status of a run that writes it.
use Rattle.std.specs.Prelude.{◌≡◌, ◌≢◌, ◌⊎◌, ℕ, Bool, List, false}
use Rattle.bench_run.specs.Rehearsals.{IsPlayedOut}
use Rattle.brief_text.specs.Briefs.{Means}
use Rattle.brief_tokens.specs.Names.{has_brief_word}
use Rattle.certificate.specs.Texts.{cert_text}
use Rattle.cert_check.specs.Accepts.{IsAnswer}
use Rattle.cert_check.specs.declared.answers.Answer.{Answer}
use Rattle.cert_check.specs.declared.answers.Answer.TheVariants.{Safe}
use Rattle.order.specs.Orders as orders
use Rattle.pair_walk.specs.declared.walk_pair.Verdict.{Verdict}
use Rattle.plan_core.specs.Contents.{Contents}
use Rattle.plan_core.specs.Limits.{IsWithinLimits}
use Rattle.plan_text.specs.Grammar.{Spells}
use Rattle.report.specs.Captures.{CaptureOf}
use Rattle.report.specs.Checks.{Judges}
use Rattle.report.specs.Lines.{check_lines}
use Rattle.run_parts.specs.declared.runs.Status.{Status}
use Rattle.run_parts.specs.declared.runs.Status.TheVariants.{Good}
use Rattle.spellings.specs.Canonical.{plan_text}
use Rattle.vcd_read.specs.Probes.{Finder}
use Rattle.verdicts.specs.Certificates.{IsCertificateText, certificate_for}
use Rattle.verdicts.specs.Verdicts.{AreVerdicts}
use Rattle.verifying.specs.Answers.{answer_status, verify_line}

-- check: the lines for the verdicts of the plan; the status judges of it
pub record CheckedPlan (plan : Contents) (report : List ℕ) (status : Status) : Type 0 where
  pub verdicts : List Verdict
  pub right : AreVerdicts plan verdicts
  pub lines : report ≡ check_lines plan verdicts
  pub judged : Judges status plan

-- certify: the text of the certificate for the verdicts of the plan, which is within the limits; the status judges of it
pub record CertifiedPlan (plan : Contents) (report : List ℕ) (status : Status) : Type 0 where
  pub limits : IsWithinLimits plan
  pub verdicts : List Verdict
  pub right : AreVerdicts plan verdicts
  pub written : report ≡ cert_text (certificate_for verdicts)
  pub judged : Judges status plan

-- order: the lines for who wins each pair; the status judges of the plan
pub record OrderedPlan (plan : Contents) (report : List ℕ) (status : Status) : Type 0 where
  pub lines : orders.OrderedPlan plan report
  pub judged : Judges status plan

-- print and expand: the canonical spelling of the plan, which spells it
pub record PrintedPlan (plan : Contents) (report : List ℕ) (status : Status) : Type 0 where
  pub canonical : report ≡ plan_text plan
  pub read_back : Spells report plan
  pub good : status ≡ Good

-- brief: a text that means the plan, none of whose names is a word of briefs
pub record AbbreviatedPlan (plan : Contents) (report : List ℕ) (status : Status) : Type 0 where
  pub sayable : has_brief_word plan ≡ false
  pub meant : Means report plan
  pub good : status ≡ Good

-- capture: the lines of the dump under the plan, without levels that last less than this time
abbrev pub CapturedPlan : ℕ → Finder → Finder → Contents → List ℕ → List ℕ → Status → Type 0
CapturedPlan least scl sda plan dump report status = CaptureOf least scl sda plan dump report status

-- verify: the line and the status of the answer that the certificate has for the plan
pub record AnsweredPlan (plan : Contents) (cert report : List ℕ) (status : Status) : Type 0 where
  pub answer : Answer
  pub right : IsAnswer plan cert answer
  pub line : report ≡ verify_line answer
  pub ended : status ≡ answer_status answer

-- bench: the text of the certificate proves the plan, these starters were played out, and the report has the lines of that
pub record PlayedPlan (starters : List ℕ) (answers : List Bool) (fill : Bool) (plan : Contents) (cert report : List ℕ) (status : Status) : Type 0 where
  pub certified : IsAnswer plan cert Safe
  pub played : IsPlayedOut plan starters answers fill report
  pub good : status ≡ Good

-- the text of the certificate has another answer for the plan, and the report is its line
pub record UnplayedPlan (plan : Contents) (cert report : List ℕ) (status : Status) : Type 0 where
  pub answer : Answer
  pub other : answer ≢ Safe
  pub right : IsAnswer plan cert answer
  pub line : report ≡ verify_line answer
  pub ended : status ≡ answer_status answer

abbrev pub RehearsedPlan : List ℕ → List Bool → Bool → Contents → List ℕ → List ℕ → Status → Type 0
RehearsedPlan starters answers fill plan cert report status =
    UnplayedPlan plan cert report status ⊎ PlayedPlan starters answers fill plan cert report status

-- bench without a certificate: the same with the text of the certificate for the verdicts of the plan; the status judges of it
pub record SelfRehearsedPlan (starters : List ℕ) (answers : List Bool) (fill : Bool) (plan : Contents) (report : List ℕ) (status : Status) : Type 0 where
  pub cert : List ℕ
  pub own : IsCertificateText plan cert
  pub due : RehearsedPlan starters answers fill plan cert report status
  pub judged : Judges status plan
