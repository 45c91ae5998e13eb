use Rattle.report.proofs.checks.status_of.Goals as goal

pub returns-then-is_safe : goal.returns-then-is_safe
returns-then-is_safe c plan judged = judged.0 c.if-is_safe.true
