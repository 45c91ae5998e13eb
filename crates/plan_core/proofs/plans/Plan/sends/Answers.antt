use Rattle.message_tree.specs.Patterns.{address_bits}
use Rattle.message_tree.specs.Trees.{frame_tree}
use Rattle.plan_core.specs.PlanContents.{plan_contents}
use Rattle.plan_core.proofs.SenderLemmas.{sends_message, sends_interrupt}
use Rattle.plan_core.proofs.plans.Plan.sends.Goals as goal

pub returns-in-Sending : goal.returns-in-Sending
returns-in-Sending c =
    sends_message (plan_contents c.args.self.now) c.args.i c.in-Sending.controller c.in-Sending.message (frame_tree c.message.result.now) c.in-Sending.ensures.value c.message.ensures

pub returns-in-Interrupt : goal.returns-in-Interrupt
returns-in-Interrupt c =
    sends_interrupt (plan_contents c.args.self.now) c.args.i c.in-Interrupt.k c.interrupt_address.result (address_bits c.new.result) c.in-Interrupt.ensures.value c.interrupt_address.ensures c.new.ensures
