use Rattle.std.proofs.Common.{sym, ◌∙◌}
use Rattle.given_plans.proofs.GivenLemmas.{second_refused, plan_refused}
use Rattle.given_plans.proofs.plans.plan_of.Goals as goal

pub returns-then-begins_second-clause-refused : goal.returns-then-begins_second-clause-refused
returns-then-begins_second-clause-refused c =
    second_refused c.as_brief.result c.args.text.now c.as_brief.ensures.refused (sym c.begins_second.ensures ∙ c.if-begins_second.true)

pub returns-in-Err-2-clause-refused : goal.returns-in-Err-2-clause-refused
returns-in-Err-2-clause-refused c =
    plan_refused c.args.text.now c.in-Err.refused.error c.in-Err.ensures.refused (sym c.begins_second.ensures ∙ c.if-begins_second.false) (sym c.is_version.ensures ∙ c.if-is_version.false)
