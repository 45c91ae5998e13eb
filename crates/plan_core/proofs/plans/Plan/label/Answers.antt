use Rattle.std.proofs.Common.{◌≡◌, ◌++◌, ◌∷◌, Some, sym, ◌∙◌, ap}
use Rattle.std.proofs.lemmas.Result.{IfOk-weaker}
use Rattle.std.specs.String.{string_bytes}
use Rattle.plan_core.specs.Labels.{label_of}
use Rattle.plan_core.specs.PlanContents.{plan_contents}
use Rattle.plan_core.proofs.LabelLemmas.{label_of-sending, label_of-interrupt}
use Rattle.plan_core.proofs.plans.Plan.label.Goals as goal

pub returns-in-Sending : goal.returns-in-Sending
returns-in-Sending c =
    let plan = plan_contents c.args.self.now in
    let controller = c.controller_name.ensures ∙ ap Some (sym c.as_str-controller.ensures) in
    let message = c.message_name.ensures ∙ ap Some (sym c.as_str-message.ensures) in
    let is = label_of-sending plan c.args.i c.in-Sending.controller c.in-Sending.message c.as_str-controller.result.now c.as_str-message.result.now c.in-Sending.ensures.value controller message in
    IfOk-weaker c.sending_label.result (λ label. string_bytes label ≡ c.as_str-controller.result.now ++ 47 ∷ c.as_str-message.result.now) (λ label. string_bytes label ≡ label_of plan c.args.i) (λ label e. e ∙ sym is) c.sending_label.ensures

pub returns-in-Interrupt : goal.returns-in-Interrupt
returns-in-Interrupt c =
    let plan = plan_contents c.args.self.now in
    let name = c.interrupt_name.ensures ∙ ap Some (sym c.as_str.ensures) in
    let is = label_of-interrupt plan c.args.i c.in-Interrupt.k c.as_str.result.now c.in-Interrupt.ensures.value name in
    IfOk-weaker c.interrupt_label.result (λ label. string_bytes label ≡ 33 ∷ c.as_str.result.now) (λ label. string_bytes label ≡ label_of plan c.args.i) (λ label e. e ∙ sym is) c.interrupt_label.ensures
