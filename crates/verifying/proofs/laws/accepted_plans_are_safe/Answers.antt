use Rattle.verifying.proofs.VerifiedLemmas.{verified_spells, safe_by_line, safe_by_status}
use Rattle.verifying.proofs.laws.accepted_plans_are_safe.Goals as goal

pub returns-clause-spelled : goal.returns-clause-spelled
returns-clause-spelled c plan cert report status h = verified_spells plan cert report status h

pub returns-clause-line : goal.returns-clause-line
returns-clause-line c plan cert status contents h spelled = safe_by_line plan cert status contents h spelled

pub returns-clause-status : goal.returns-clause-status
returns-clause-status c plan cert report contents h spelled = safe_by_status plan cert report contents h spelled
