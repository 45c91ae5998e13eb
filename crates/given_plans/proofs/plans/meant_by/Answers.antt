use Rattle.std.proofs.Common.{sym, ◌∙◌}
use Rattle.given_plans.proofs.GivenLemmas.{brief_refused, head_refused}
use Rattle.given_plans.proofs.plans.meant_by.Goals as goal

pub returns-in-Err-clause-refused : goal.returns-in-Err-clause-refused
returns-in-Err-clause-refused c =
    head_refused c.args.text.now c.args.head.error c.in-Err.refusal.refused.error c.in-Err.ensures.refused (sym c.is_version.ensures ∙ c.if-is_version.true) c.requires

pub returns-in-Err-2-clause-refused : goal.returns-in-Err-2-clause-refused
returns-in-Err-2-clause-refused c =
    brief_refused c.args.text.now c.args.head.error c.in-Err.refusal.refused.error c.in-Err.ensures.refused (sym c.is_version.ensures ∙ c.if-is_version.false) c.requires
