use Rattle.std.proofs.Common.{◌+◌, ◌∙◌}
use Rattle.plan_core.specs.NameBytes.{name_bytes}
use Rattle.plan_core.specs.PlanContents.{plan_contents}
use Rattle.mending.proofs.NumberLemmas.{number_of_message, number_of_interrupt}
use Rattle.mending.proofs.left.number_in.Goals as goal

pub returns-in-Sending : goal.returns-in-Sending
returns-in-Sending c =
    c.message_place.ensures ∙ number_of_message (plan_contents c.args.plan.now) (plan_contents c.args.other.now) c.args.x c.in-Sending.controller c.in-Sending.message (name_bytes c.message_name.result.now) c.in-Sending.ensures.value c.message_name.ensures

pub returns-in-Interrupt : goal.returns-in-Interrupt
returns-in-Interrupt c =
    let plan = plan_contents c.args.plan.now in
    let name = name_bytes c.interrupt_name.result.now in
    (λ i. c.messages.ensures i + 1 + c.interrupt_place-place.ensures i) ∙ number_of_interrupt plan (plan_contents c.args.other.now) c.args.x c.in-Interrupt.k name c.in-Interrupt.ensures.value c.interrupt_name.ensures
