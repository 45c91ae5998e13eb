use Rattle.plan_text.proofs.ReadLemmas.{one_plan, answered}
use Rattle.plan_text.proofs.RefusedLemmas.{first_same, spelled_not_refused}
use Rattle.plan_text.proofs.laws.texts_have_one_reading.Goals as goal

pub returns-clause-one_plan : goal.returns-clause-one_plan
returns-clause-one_plan c = one_plan

pub returns-clause-one_refusal : goal.returns-clause-one_refusal
returns-clause-one_refusal c = first_same

pub returns-clause-not_both : goal.returns-clause-not_both
returns-clause-not_both c = spelled_not_refused

pub returns-clause-one_of_both : goal.returns-clause-one_of_both
returns-clause-one_of_both c = answered
