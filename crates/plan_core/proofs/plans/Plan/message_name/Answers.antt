use Rattle.plan_core.specs.Parts.{contents_of, message_of}
use Rattle.plan_core.specs.PlanContents.{plan_contents}
use Rattle.plan_core.proofs.EntryLemmas.{key_at}
use Rattle.plan_core.proofs.plans.Plan.message_name.Goals as goal

pub returns : goal.returns
unfolding plan_contents contents_of
returns c = key_at message_of c.args.self.now.messages.entries c.args.k c.get_index.result c.unwrap.result c.get_index.ensures.entry c.unwrap.ensures
