use Rattle.std.proofs.Common.{Some, sym, ◌∙◌, ap}
use Rattle.plan_core.specs.PlanContents.{plan_contents}
use Rattle.plan_core.proofs.LabelLemmas.{label_of-sending, label_of-interrupt}
use Rattle.plan_core.proofs.plans.Plan.has_label.Goals as goal

pub returns-in-Sending : goal.returns-in-Sending
returns-in-Sending c =
    let plan = plan_contents c.args.self.now in
    let controller = c.controller_name.ensures ∙ ap Some (sym c.as_str-controller.ensures ∙ sym c.as_bytes.ensures.value) in
    let message = c.message_name.ensures ∙ ap Some (sym c.as_str-message.ensures ∙ sym c.as_bytes-in-Sending.ensures.value) in
    let is = label_of-sending plan c.args.i c.in-Sending.controller c.in-Sending.message c.as_bytes.result.now c.as_bytes-in-Sending.result.now c.in-Sending.ensures.value controller message in
    ((λ yes. is ∙ c.is_sending_label.ensures.0 yes ∙ c.as_bytes-label.ensures.value), (λ same. c.is_sending_label.ensures.1 (sym is ∙ same ∙ sym c.as_bytes-label.ensures.value)))

pub returns-in-Interrupt : goal.returns-in-Interrupt
returns-in-Interrupt c =
    let plan = plan_contents c.args.self.now in
    let name = c.interrupt_name.ensures ∙ ap Some (sym c.as_str-name.ensures ∙ sym c.as_bytes-in-Interrupt.ensures.value) in
    let is = label_of-interrupt plan c.args.i c.in-Interrupt.k c.as_bytes-in-Interrupt.result.now c.in-Interrupt.ensures.value name in
    ((λ yes. is ∙ c.is_interrupt_label.ensures.0 yes ∙ c.as_bytes-label.ensures.value), (λ same. c.is_interrupt_label.ensures.1 (sym is ∙ same ∙ sym c.as_bytes-label.ensures.value)))
