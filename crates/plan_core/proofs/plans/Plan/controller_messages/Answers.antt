use Rattle.std.proofs.Common.{ap, sym, ◌∙◌, Some}
use Rattle.plan_core.specs.Parts.{contents_of, controller_of}
use Rattle.plan_core.specs.PlanContents.{plan_contents}
use Rattle.plan_core.proofs.EntryLemmas.{value_at}
use Rattle.plan_core.proofs.KnownLemmas.{messages_known}
use Rattle.plan_core.proofs.plans.Plan.controller_messages.Goals as goal

pub returns-clause-value : goal.returns-clause-value
unfolding plan_contents contents_of
returns-clause-value c = value_at controller_of c.args.self.now.controllers.entries c.args.k c.get_index.result c.unwrap.result c.get_index.ensures.entry c.unwrap.ensures ∙ ap Some (sym c.as_slice.ensures.value)

pub returns-clause-known : goal.returns-clause-known
unfolding plan_contents contents_of
returns-clause-known c = messages_known c.args.self.now c.args.k c.as_slice.result.now (returns-clause-value c)
