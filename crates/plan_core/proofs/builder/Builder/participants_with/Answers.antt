use Rattle.std.proofs.Common.{◌≡◌, ◌++◌, map, take, length, sym, ◌∙◌, ap, arith, length-take}
use Rattle.std.specs.List.{range_with_len}
use Rattle.plan_core.specs.BuilderContents.{builder_contents}
use Rattle.plan_core.specs.PlanContents.{plan_contents}
use Rattle.plan_core.specs.declared.plans.Participant.TheVariants.{Sending, Interrupt}
use Rattle.plan_core.specs.Participants.{sendings_from}
use Rattle.plan_core.proofs.ContentsLemmas.{participant_count-is, participants_of-sender}
use Rattle.plan_core.proofs.PlanLemmas.{participants_are}
use Rattle.plan_core.proofs.StepLemmas.{take-sendings}
use Rattle.plan_core.proofs.builder.Builder.participants_with.Goals as goal

pub slice_bounds-from_slice-end : goal.slice_bounds-from_slice-end
unfolding builder_contents
slice_bounds-from_slice-end c =
    let plan = c.args.self.now.plan in
    let size = ap length (participants_are plan) ∙ participant_count-is (plan_contents plan) in
    omega (arith, length-take c.sendings-sendings.result c.deref.result.now, ap length c.deref.ensures.value, c.sendings-sendings.ensures, size)

pub returns : goal.returns
unfolding builder_contents
returns c name =
    let plan = c.args.self.now.plan in
    let first : c.in_ok-participants.participants.items ≡ sendings_from 0 (plan_contents plan).controllers = c.in_ok-participants.ensures.items ∙ ap (take c.sendings-sendings.result) c.deref.ensures.value ∙ take-sendings plan.participants.items (plan_contents plan) c.sendings-sendings.result (participants_are plan) c.sendings-sendings.ensures in
    c.in_ok-push_interrupts.ensures
    ∙ ap (λ xs. xs ++ map Interrupt (range_with_len 0 c.interrupts.result)) (c.in_ok-push_sendings.ensures ∙ (λ i. first i ++ map (Sending (c.controllers.ensures i)) c.args.messages.now))
    ∙ ap (λ n. sendings_from 0 (plan_contents plan).controllers ++ map (Sending (length (plan_contents plan).controllers)) c.args.messages.now ++ map Interrupt (range_with_len 0 n)) c.interrupts.ensures
    ∙ sym (participants_of-sender (plan_contents plan) name c.args.messages.now)
