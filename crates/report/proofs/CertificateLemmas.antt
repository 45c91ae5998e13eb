-- What the run of certify knows of its texts.
use Rattle.std.proofs.Common.{◌≡◌, List, ℕ, subst}
use Rattle.certificate.specs.Texts.{cert_text}
use Rattle.pair_walk.specs.declared.walk_pair.Verdict.{Verdict}
use Rattle.plan_core.specs.Contents.{Contents}
use Rattle.plan_core.specs.Limits.{IsWithinLimits}
use Rattle.plan_text.specs.Grammar.{Spells}
use Rattle.verdicts.specs.Certificates.{certificate_for}
use Rattle.verdicts.specs.Verdicts.{AreVerdicts}
use Rattle.report.specs.Certificates.{Certified}
use Rattle.report.specs.Checks.{Judges}
use Rattle.run_parts.specs.declared.runs.Status.{Status}

pub certifies : (text slice report : List ℕ) (plan : Contents) (verdicts : List Verdict) (status : Status) → slice ≡ text → Spells slice plan → IsWithinLimits plan → AreVerdicts plan verdicts → report ≡ cert_text (certificate_for verdicts) → Judges status plan → Certified text report status
certifies text slice report plan verdicts status same spelled limits right written judged = record {
  plan = plan;
  spelled = subst (λ (t : List ℕ). Spells t plan) same spelled;
  limits = limits;
  verdicts = verdicts;
  right = right;
  written = written;
  judged = judged;
}
