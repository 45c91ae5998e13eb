use Rattle.plan_core.specs.Parts.{contents_of, interrupt_of}
use Rattle.plan_core.specs.PlanContents.{plan_contents}
use Rattle.plan_core.proofs.EntryLemmas.{value_at}
use Rattle.plan_core.proofs.plans.Plan.interrupt_address.Goals as goal

pub returns : goal.returns
unfolding plan_contents contents_of
returns c = value_at interrupt_of c.args.self.now.interrupts.entries c.args.k c.get_index.result c.unwrap.result c.get_index.ensures.entry c.unwrap.ensures
