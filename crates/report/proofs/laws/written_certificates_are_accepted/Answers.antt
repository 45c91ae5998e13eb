use Rattle.report.proofs.AcceptedLemmas.{accepted_safe, accepted_unsafe}
use Rattle.report.proofs.laws.written_certificates_are_accepted.Goals as goal

pub returns-clause-safe : goal.returns-clause-safe
returns-clause-safe c text report h = accepted_safe h.plan h.limits h.verdicts h.right text report h.spelled h.written h.judged

pub returns-clause-not_safe : goal.returns-clause-not_safe
returns-clause-not_safe c text report h = accepted_unsafe h.plan h.limits h.verdicts h.right text report h.spelled h.written h.judged
