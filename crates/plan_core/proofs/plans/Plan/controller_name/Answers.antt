use Rattle.plan_core.specs.Parts.{contents_of, controller_of}
use Rattle.plan_core.specs.PlanContents.{plan_contents}
use Rattle.plan_core.proofs.EntryLemmas.{key_at}
use Rattle.plan_core.proofs.plans.Plan.controller_name.Goals as goal

pub returns : goal.returns
unfolding plan_contents contents_of
returns c = key_at controller_of c.args.self.now.controllers.entries c.args.k c.get_index.result c.unwrap.result c.get_index.ensures.entry c.unwrap.ensures
