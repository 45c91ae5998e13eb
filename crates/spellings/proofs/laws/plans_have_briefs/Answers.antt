use Rattle.spellings.proofs.WrittenPlans.{plan_said}
use Rattle.spellings.proofs.laws.plans_have_briefs.Goals as goal

pub returns : goal.returns
returns c = plan_said
