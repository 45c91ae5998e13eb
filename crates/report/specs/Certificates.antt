-- What certify says of a plan text; and what verify says of a plan text and a certificate text, by its own crate.
use Rattle.std.specs.Prelude.{◌≡◌, ℕ, List}
use Rattle.certificate.specs.Texts.{cert_text}
use Rattle.pair_walk.specs.declared.walk_pair.Verdict.{Verdict}
use Rattle.plan_core.specs.Contents.{Contents}
use Rattle.plan_core.specs.Limits.{IsWithinLimits}
use Rattle.plan_text.specs.Grammar.{Spells}
use Rattle.verdicts.specs.Certificates.{certificate_for}
use Rattle.verdicts.specs.Verdicts.{AreVerdicts}
use Rattle.report.specs.Checks.{Judges}
use Rattle.run_parts.specs.Devices.{Writer, by_parts}
use Rattle.run_parts.specs.Writing.{WritesAll, WritingStops}
use Rattle.run_parts.specs.declared.errors.RunError.{RunError}
use Rattle.run_parts.specs.declared.runs.Status.{Status}
pub use Rattle.verifying.specs.Verified.{Verified}

-- the text spells a plan, within the limits as every plan is; the report is the text of the certificate for its verdicts, and
-- the status judges of the plan
pub record Certified (text report : List ℕ) (status : Status) : Type 0 where
  pub plan : Contents
  pub spelled : Spells text plan
  pub limits : IsWithinLimits plan
  pub verdicts : List Verdict
  pub right : AreVerdicts plan verdicts
  pub written : report ≡ cert_text (certificate_for verdicts)
  pub judged : Judges status plan

module _ {D : Type 0} (plan : Contents) (writer : Writer D) (before : D) where
  -- the writer took the text of the certificate for the verdicts of the plan, in parts, and the status judges of the plan
  pub record Certifies (status : Status) (now : D) : Type 0 where
    pub verdicts : List Verdict
    pub right : AreVerdicts plan verdicts
    pub written : WritesAll (by_parts writer) before (cert_text (certificate_for verdicts)) now
    pub judged : Judges status plan

  -- the writer stopped within that text
  pub record StopsCertifying (error : RunError) (now : D) : Type 0 where
    pub verdicts : List Verdict
    pub right : AreVerdicts plan verdicts
    pub stopped : WritingStops (by_parts writer) before (cert_text (certificate_for verdicts)) error now
